pub mod Plane
pub mod Found
pub mod Write
pub mod Copy
pub mod InnerBytewise
