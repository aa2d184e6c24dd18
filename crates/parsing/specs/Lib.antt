pub mod Limits
pub mod Parse
pub mod Verdict
