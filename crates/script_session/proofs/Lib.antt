-- Laws of a session, which the proofs of the lines cite.
pub mod SessionLaws
