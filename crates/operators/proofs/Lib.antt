mod ChainLaws
pub mod EndingLaws
