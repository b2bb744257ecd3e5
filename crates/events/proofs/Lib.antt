pub mod Stepping
pub mod Going
pub mod SomeLaws
pub mod PlayLaws
pub mod OldCaptures
