-- Demand 3 as one statement over model's definitions, and an example of it.
pub mod TwoRuns
pub mod Example
