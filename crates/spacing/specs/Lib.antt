pub mod Respaced
pub mod Machinery
