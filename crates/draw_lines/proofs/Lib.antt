-- Laws of lines.
pub mod SegmentLaws
