pub mod Numbers
pub mod Machinery
