pub mod Laws
pub mod Order
pub mod Singles
pub mod Spellings
pub mod Table
