pub mod RuleClasses
pub mod TokenClasses
pub mod Vocabulary
