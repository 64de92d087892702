-- What the contracts of `canvas` cite.
pub mod Canvas
pub mod Targets
