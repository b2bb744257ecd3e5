pub mod Coded
pub mod Written
pub mod Simulation
pub mod InnerSteps
pub mod Feed
