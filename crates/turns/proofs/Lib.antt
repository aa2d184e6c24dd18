pub mod RunLaws
pub mod TakeLaws
