-- Laws of batches.
pub mod HeadLaws
pub mod OnwardLaws
pub mod StepLaws
pub mod BatchLaws
