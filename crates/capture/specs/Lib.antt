pub mod Little
pub mod Layout
pub mod Refused
pub mod Reading
pub mod InnerTrailer
