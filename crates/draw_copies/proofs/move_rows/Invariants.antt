-- `draw_copies::move_rows` meets its contract: after k turns the first k rows are moved, in their order.
use Rattle.canvas.specs.Canvas.{canvas}
use Rattle.draw_copies.proofs.LoopLaws.{Stepped, all_steps}
use Rattle.draw_copies.proofs.move_rows.Given as goal

abbrev pub invariant-loop-k : goal.invariant-loop-k
invariant-loop-k l =
    Stepped (all_steps l.t l.m) l.m.patch.wide (canvas l.initial.screen l.initial.store 0) (canvas l.screen l.store l.seen) l.k
