pub mod Kept
pub mod Parts
pub mod Machine
pub mod Calls
pub mod Quiet
pub mod OnePixel
pub mod Table
