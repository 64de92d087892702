-- Laws of a run.
pub mod RanLaws
