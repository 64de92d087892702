-- What the contracts of the console cite beside paper 01's definitions.
pub mod Admissions
pub mod Answers
