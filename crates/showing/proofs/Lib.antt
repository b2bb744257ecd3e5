pub mod FileLaws
pub mod Zeros
pub mod Fitted
pub mod Written
pub mod Empty
