-- What the contracts of `strips` cite beside model's definitions.
pub mod Strips
pub mod Strokes
pub mod Stretches
pub mod Covers
pub mod Tables
