pub mod Back
pub mod Passed
