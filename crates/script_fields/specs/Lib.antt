-- A line's fields, and the numbers and bytes they spell (01, "The script program").
pub mod Numbers
pub mod Fields
