-- Laws that the proofs of `raster` and of its callers cite.
pub mod Table
pub mod BitLaws
pub mod ByteLaws
pub mod PlaceLaws
pub mod ChangeLaws
pub mod BlendLaws
