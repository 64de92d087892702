-- What the contracts of the lines before the calls cite.
pub mod Sizes
