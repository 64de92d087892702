-- What the contracts of `processor` cite beside model's definitions.
pub mod Obeying
