pub mod AffectLaws
