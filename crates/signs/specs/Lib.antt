pub mod Signs
pub mod Machinery
