pub mod Spellings
pub mod Laws
