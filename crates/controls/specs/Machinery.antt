-- How code and proofs hold what the definitions speak of.
pub mod Numbers
pub mod Steps
pub mod Written
