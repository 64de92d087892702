-- Laws of the numbers and bytes that fields spell.
pub mod NumberLaws
pub mod ReadingLaws
pub mod LineLaws
