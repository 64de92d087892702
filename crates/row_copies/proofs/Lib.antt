-- Laws of operators, words, rows and bytes copied, which the proofs of `row_copies` and of its callers cite.
pub mod WordLaws
pub mod CopyLaws
pub mod ChunkLaws
pub mod CarryLaws
pub mod PixelLinks
