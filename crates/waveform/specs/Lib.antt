pub mod Levels
pub mod Tables
pub mod Frames
pub mod InnerProgress
pub mod InnerPlaces
