pub mod Reading
pub mod InnerCarried
pub mod InnerStep
