pub mod RangeLaws
pub mod Examples
