-- How code and proofs hold what the definitions speak of.
pub mod Places
