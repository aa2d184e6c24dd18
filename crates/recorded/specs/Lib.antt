pub mod Parts
pub mod Recorded
