pub mod TakenSenses
pub mod AllSenses
pub mod ShownCuts
pub mod ShownRecords
pub mod IndexedRecords
pub mod UpdateRecords
pub mod Theorems
