-- `draw_text::cells::stored_cells` meets its contract. The loop's invariant: the rows so far are read.
use Rattle.std.proofs.Common.{◌≡◌, length}
use Rattle.draw_text.specs.Cells.{StoredCells}
use Rattle.draw_text.proofs.cells.stored_cells.Given as goal

abbrev pub invariant-loop-number : goal.invariant-loop-number
invariant-loop-number l = StoredCells l.store l.at l.width l.number l.cells × (length l.cells ≡ 16)
