-- What the contracts of the refusals cite beside paper 01's definitions, and what a call may rely on once
-- nothing is refused.
pub mod Sizes
pub mod Good
pub mod Admitted
