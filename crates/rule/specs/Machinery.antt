-- How code and proofs hold what the definitions speak of.
pub mod Summary
pub mod LevelCodes
