pub mod StringLaws
pub mod PatternLaws
