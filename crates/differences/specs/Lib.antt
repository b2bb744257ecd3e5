pub mod Places
pub mod Apart
pub mod Lines
pub mod Parts
