-- Laws of stamps, which the proofs of `stamps` and of its callers cite.
pub mod StampLaws
