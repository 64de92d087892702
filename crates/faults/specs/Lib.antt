-- What the contracts of `faults` cite beside model's definitions.
pub mod Checking
