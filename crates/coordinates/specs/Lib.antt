-- What the contracts of `coordinates` cite beside model's definitions.
pub mod Offsets
