pub mod SyntaxListing
