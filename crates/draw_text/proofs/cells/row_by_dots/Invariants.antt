-- `draw_text::cells::row_by_dots` meets its contract. The loop's invariant: the first i cells of the row are painted.
use Rattle.model.specs.Ranges.{listed}
use Rattle.canvas.specs.Canvas.{canvas}
use Rattle.canvas.proofs.LoopLaws.{Painting}
use Rattle.draw_text.specs.Cells.{cell_dot}
use Rattle.draw_text.proofs.cells.row_by_dots.Given as goal

abbrev pub invariant-loop-i : goal.invariant-loop-i
invariant-loop-i l =
    Painting l.t (λ k. listed 0 k (cell_dot l.t.pen l.style l.row)) (canvas l.initial.screen l.initial.store l.hits)
    (canvas l.screen l.store l.seen) l.i l.row.width
