-- What the contracts of `batches` cite beside model's definitions.
pub mod Heads
pub mod Batches
