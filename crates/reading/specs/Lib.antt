pub mod Read
pub mod Nested
