pub mod BriefLaws
