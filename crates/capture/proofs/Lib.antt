pub mod LittleLaws
pub mod ListedLaws
pub mod CaptureLaws
pub mod Placed
pub mod RateLaws
pub mod Sizes
