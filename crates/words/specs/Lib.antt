pub mod Words
pub mod Machinery
