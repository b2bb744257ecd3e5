pub mod Finding
pub mod Wording
