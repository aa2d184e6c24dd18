pub mod Answers
pub mod Faults
