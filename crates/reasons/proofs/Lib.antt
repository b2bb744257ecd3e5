pub mod GroupLaws
pub mod WordLaws
pub mod NameLaws
pub mod EventLaws
pub mod ReasonLaws
pub mod Example
