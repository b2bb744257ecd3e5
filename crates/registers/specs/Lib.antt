pub mod Area
pub mod Reset
pub mod Luts
pub mod Bytes
pub mod Written
pub mod Flags
pub mod Range
