pub mod AcceptedReadings
pub mod Verdicts
pub mod OneVerdict
pub mod Theorems
pub mod Bounds
