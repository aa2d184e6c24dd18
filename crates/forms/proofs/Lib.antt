pub mod EntryLaws
pub mod FormLaws
