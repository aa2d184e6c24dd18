pub mod Strings
pub mod Patterns
