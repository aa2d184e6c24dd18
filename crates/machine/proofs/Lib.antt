pub mod Ran
pub mod Cases
