-- Numbers as text, and text written to a buffer (01, "The script program").
pub mod Numerals
