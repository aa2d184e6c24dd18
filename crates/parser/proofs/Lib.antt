pub mod WrittenCells
pub mod JudgedLaws
pub mod ParseLaws
