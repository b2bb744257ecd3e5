pub mod Numbers
pub mod Levels
pub mod Names
pub mod Selects
