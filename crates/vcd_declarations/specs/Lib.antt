pub mod Declarations
pub mod Codes
pub mod Begun
pub mod InnerEnd
pub mod InnerVariable
pub mod InnerHead
pub mod InnerDeclared
