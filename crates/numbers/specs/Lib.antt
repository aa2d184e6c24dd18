pub mod Numbers
pub mod NumericLiterals
