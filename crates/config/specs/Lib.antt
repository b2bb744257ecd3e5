pub mod X3
pub mod Refusal
