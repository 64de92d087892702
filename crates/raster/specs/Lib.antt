-- The definitions that the contracts of `raster` cite, over those of `model`.
pub mod Operations
pub mod Place
pub mod Pixels
