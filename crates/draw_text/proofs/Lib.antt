-- Laws of moves along the path, of cells, and of a string that is read while it is drawn.
pub mod PathLaws
pub mod CellLaws
pub mod RowLaws
pub mod LegibleLaws
pub mod WritingLaws
