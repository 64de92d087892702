-- What the contracts of `stamps` cite beside definitions of `model` and `strips`.
pub mod Stamps
