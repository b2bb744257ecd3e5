pub mod FindLaws
pub mod WordLaws
