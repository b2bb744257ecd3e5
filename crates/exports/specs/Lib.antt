pub mod Apart
pub mod Taken
pub mod Handed
pub mod Given
