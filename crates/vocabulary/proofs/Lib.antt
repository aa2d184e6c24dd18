pub mod Listed
pub mod RowLaws
pub mod ClassLaws
