-- What the contracts of `draw_copies` cite beside model's definitions.
pub mod Steps
pub mod Rows
pub mod Transfers
