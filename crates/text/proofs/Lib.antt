pub mod Range
pub mod Lists
pub mod Laws
pub mod CodeLaws
pub mod Members
