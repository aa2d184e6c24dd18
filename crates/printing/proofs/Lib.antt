pub mod PrintedLaws
pub mod Examples
