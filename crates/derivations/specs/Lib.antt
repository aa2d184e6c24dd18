pub mod Cuts
pub mod Tokens
pub mod Derivations
pub mod TreeElements
pub mod Demand3
pub mod Senses
