pub mod Word
pub mod Integer
pub mod Pick
pub mod InTurn
pub mod Listed
pub mod Turns
pub mod RefusalNumbers
