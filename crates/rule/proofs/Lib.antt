pub mod Finite
pub mod SummaryLaws
pub mod LevelCodeLaws
pub mod ClassNumbers
pub mod SettledSigns
