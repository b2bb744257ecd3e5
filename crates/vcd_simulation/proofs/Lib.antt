pub mod Holding
pub mod Making
pub mod StepLaws
pub mod FeedLaws
pub mod SameCodes
