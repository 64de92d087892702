-- What the contracts of `row_copies` cite beside the definitions of model and strips.
pub mod Rows
pub mod Chunks
