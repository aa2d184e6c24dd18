pub mod Tokens
pub mod Syntax
pub mod Operators
pub mod Scopes
pub mod Machinery
