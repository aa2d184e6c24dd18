pub mod CellLaws
pub mod StoreLaws
