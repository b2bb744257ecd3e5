pub mod Walk
pub mod Gray
pub mod Optics
pub mod Transfer
pub mod InnerDivision
