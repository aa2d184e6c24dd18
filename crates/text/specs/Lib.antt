pub mod Quoted
pub mod Bytes
pub mod Runs
pub mod Machinery
