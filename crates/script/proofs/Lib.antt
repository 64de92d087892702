-- The laws that the proofs of this crate cite.
pub mod ScriptLaws
pub mod RoomLaws
pub mod Example
