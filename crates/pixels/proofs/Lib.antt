pub mod Machine
pub mod ListLaws
pub mod StateLaws
pub mod DriveLaws
pub mod ReadyLaws
pub mod DrawLaws
pub mod GuessLaws
