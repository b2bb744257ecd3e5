pub mod Rows
pub mod Get
pub mod Make1
pub mod Make4
