pub mod Settled
pub mod InnerSteps
