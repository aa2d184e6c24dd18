pub mod SyntaxLaws
