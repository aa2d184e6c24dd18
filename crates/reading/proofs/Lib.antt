pub mod Formed
pub mod LengthFirst
pub mod Numbered
pub mod Theorems
