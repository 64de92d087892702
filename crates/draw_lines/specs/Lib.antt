-- What the contracts of `draw_lines` cite beside definitions of `model`, `canvas` and `traces`.
pub mod Segments
