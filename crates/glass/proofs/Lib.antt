pub mod WalkLaws
pub mod Coalescence
pub mod TransferLaws
pub mod GrayLaws
