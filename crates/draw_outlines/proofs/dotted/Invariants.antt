-- `draw_outlines::dotted` meets its contract. The loop's invariant: the pixels before pixel i are drawn.
use Prim.Native.Nat.{◌-◌}
use Rattle.model.specs.Ranges.{listed}
use Rattle.canvas.specs.Canvas.{canvas, Painted}
use Rattle.draw_outlines.specs.Outlines.{outline_dot}
use Rattle.draw_outlines.proofs.dotted.Given as goal

abbrev pub invariant-loop-i : goal.invariant-loop-i
invariant-loop-i l =
    Painted l.t (listed l.first (l.i - l.first) (outline_dot l.t.pen l.o)) (canvas l.initial.screen l.initial.store l.hits)
    (canvas l.screen l.store l.seen)
