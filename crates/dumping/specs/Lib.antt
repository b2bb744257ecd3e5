pub mod Reading
pub mod Played
