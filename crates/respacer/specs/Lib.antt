pub mod Alike
pub mod Respace
pub mod Machinery
