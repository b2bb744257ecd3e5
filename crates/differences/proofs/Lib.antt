pub mod PlaceLaws
pub mod ApartLaws
pub mod LineLaws
pub mod Example
