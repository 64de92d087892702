-- What the contracts of the decoder cite beside the definitions of `model`.
pub mod Counts
