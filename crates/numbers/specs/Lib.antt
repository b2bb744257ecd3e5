pub mod Filled
pub mod Number
pub mod InnerRow
