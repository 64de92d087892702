-- What the contracts of `draw_text` cite beside model's definitions.
pub mod Orientation
pub mod Cells
pub mod Rows
pub mod Writing
