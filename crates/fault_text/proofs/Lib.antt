-- Laws of fonts, and of the check of a string.
pub mod FontLaws
pub mod CheckLaws
