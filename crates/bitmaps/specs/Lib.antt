-- What the contracts and laws of bitmaps cite beside paper 01's definitions.
pub mod Places
pub mod Areas
