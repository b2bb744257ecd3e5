pub mod Settling
pub mod Coming
pub mod Walked
