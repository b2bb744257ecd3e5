pub mod Lines
pub mod Units
pub mod Parts
pub mod InnerCount
