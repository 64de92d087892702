-- What the contracts of `stencils` cite beside model's and strips' definitions.
pub mod Stencils
