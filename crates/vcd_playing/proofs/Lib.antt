pub mod PlayingLaws
pub mod MakingLaws
