pub mod Parts
pub mod NumberLaws
pub mod ReadBack
pub mod RealLaws
pub mod SelectLaws
pub mod WordLaws
pub mod NameLaws
pub mod Example
