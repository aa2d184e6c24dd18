pub mod Reading
pub mod Limits
pub mod Machinery
