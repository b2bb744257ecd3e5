pub mod Lost
pub mod ReadLaws
pub mod PlayLaws
pub mod JobLaws
