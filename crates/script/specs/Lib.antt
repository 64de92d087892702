-- The script program (01, "The script program"): what a script prints.
pub mod Scripts
