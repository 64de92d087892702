-- Laws of an array's lines.
pub mod ArrayLaws
