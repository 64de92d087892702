-- What the contracts of `perform` cite beside model's definitions.
pub mod Performing
