pub mod Gaps
pub mod Machinery
