pub mod GroupLaws
pub mod CloserLaws
pub mod AskLaws
pub mod ObjectLaws
