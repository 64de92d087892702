-- What the contracts of `draw_outlines` cite beside model's definitions.
pub mod Outlines
