pub mod Reasons
pub mod Groups
pub mod Wording
