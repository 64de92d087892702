-- What the contracts of run cite beside paper 01's definitions.
pub mod Running
