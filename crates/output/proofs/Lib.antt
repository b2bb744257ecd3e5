pub mod Words
pub mod SampleLaws
pub mod UnitLaws
pub mod PartLaws
pub mod Example
pub mod Short
