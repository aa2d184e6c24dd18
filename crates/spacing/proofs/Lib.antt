pub mod OverLaws
pub mod FoundAgain
pub mod WriteLaws
