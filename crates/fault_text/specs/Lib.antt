-- What the contracts of `fault_text` cite beside model's definitions.
pub mod Reading
