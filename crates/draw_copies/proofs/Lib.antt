-- Laws of copies.
pub mod StepLaws
pub mod CropLaws
pub mod MoveLaws
pub mod LoopLaws
pub mod RowLaws
pub mod CopyLaws
pub mod SourceLaws
