-- Laws of grids.
pub mod GridLaws
pub mod TransposeLaws
