pub mod EndLaws
pub mod StepLaws
pub mod LevelEnds
pub mod KeptLength
pub mod ClassLaws
pub mod NumberLaws
