pub mod Elements
pub mod Lexemes
