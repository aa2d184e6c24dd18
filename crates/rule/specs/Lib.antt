pub mod Trees
pub mod Rule
pub mod Levels
pub mod Machinery
