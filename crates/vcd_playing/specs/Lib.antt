pub mod Words
pub mod Making
