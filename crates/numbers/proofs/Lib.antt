pub mod NumberLaws
pub mod NumberPlaces
pub mod LongestNumber
pub mod NumberCuts
