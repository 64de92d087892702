-- What the contracts of `traces` cite beside definitions of `model` and `canvas`.
pub mod Slopes
pub mod Traces
pub mod Edges
pub mod Walks
