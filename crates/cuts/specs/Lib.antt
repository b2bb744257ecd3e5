pub mod Cuts
pub mod Lines
