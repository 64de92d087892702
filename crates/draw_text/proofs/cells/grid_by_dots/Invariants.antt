-- `draw_text::cells::grid_by_dots` meets its contract. The loop's invariant: the first rows are painted.
use Rattle.canvas.specs.Canvas.{canvas}
use Rattle.canvas.proofs.LoopLaws.{Painting}
use Rattle.draw_text.specs.Cells.{rows_from}
use Rattle.draw_text.proofs.cells.grid_by_dots.Given as goal

abbrev pub invariant-loop-number : goal.invariant-loop-number
invariant-loop-number l =
    Painting l.t (rows_from l.t.pen l.style l.g 0) (canvas l.initial.screen l.initial.store l.hits) (canvas l.screen l.store l.seen)
    l.number l.g.height
