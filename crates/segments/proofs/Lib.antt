pub mod SegmentLaws
pub mod ClassLaws
pub mod ToldTrees
pub mod RecordPlaces
pub mod FineRecords
pub mod LeafLaws
pub mod ReadSegments
