-- Laws of signed numbers.
pub mod SignedLaws
pub mod WrapLaws
pub mod EdgeLaws
