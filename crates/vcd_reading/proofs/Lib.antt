pub mod CarryLaws
pub mod ReadLaws
pub mod HeadLaws
pub mod CloseLaws
pub mod WholeDump
