-- What the contracts of `draw_circles` cite beside model's definitions.
pub mod Sides
pub mod Tables
pub mod Sheets
pub mod Eighths
