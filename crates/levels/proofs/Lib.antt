pub mod BriefLaws
pub mod RunLaws
pub mod StepLaws
