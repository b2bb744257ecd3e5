pub mod WordLaws
pub mod SpanLaws
pub mod Scanning
pub mod Cutting
