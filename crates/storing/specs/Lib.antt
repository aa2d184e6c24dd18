pub mod Records
pub mod Machinery
