-- Laws of loops over a table, of good records, and what a call may rely on once nothing is refused.
pub mod RangeLaws
pub mod SizeLaws
pub mod GoodLaws
pub mod AdmittedLaws
