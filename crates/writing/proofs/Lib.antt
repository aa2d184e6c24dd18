pub mod WritingLaws
pub mod NumberLaws
pub mod Examples
