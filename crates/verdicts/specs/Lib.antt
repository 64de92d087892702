-- What the judge's reply holds of runs, and an example of it.
pub mod Verdicts
pub mod Example
