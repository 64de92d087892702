-- What the contracts of `draw_arrays` cite beside model's definitions.
pub mod Arrays
