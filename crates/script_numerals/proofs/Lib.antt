-- Laws of text that is written to a buffer, and of numbers as text.
pub mod WroteLaws
pub mod NumeralLaws
