-- What the contracts of `grids` cite beside model's and strips' definitions.
pub mod Grids
