-- `batches::batch_on` meets its contract: each way through the loop's body is one command more.
use mathlib.Core.Path.{◌≡◌, refl, sym, ◌∙◌}
use native.Mathlib.Omega.{arith}
use Rattle.batches.specs.declared.heads.Head.TheVariants as head
use Rattle.batches.proofs.BatchLaws.{batching_none, batching_next, batching_moved, head_few, line_painted}
use Rattle.batches.proofs.batch_on.Goals as goal
use Rattle.batches.proofs.batch_on.Goals.{in-Some-Line, in-Some-Circle, in_default+in-Some}

pub loop-count-init : goal.loop-count-init
loop-count-init c = batching_none _ _ _ _ _ _

-- LINE
pub overflow_add-paint : goal.overflow_add-paint
overflow_add-paint c =
    let painted = line_painted _ _ c.in-Some-Line.dx c.in-Some-Line.dy _ _ c.whole_line.ensures.0 c.trace_of-line.ensures c.draw_trace.ensures in
    let few = head_few _ _ (head.Line c.in-Some-Line.dx c.in-Some-Line.dy) _ _ _ _ _ painted in
    omega arith

-- CIRCLE
pub overflow_add-paint-in-Some-Circle : goal.overflow_add-paint-in-Some-Circle
overflow_add-paint-in-Some-Circle c =
    let few = head_few _ _ (head.Circle c.in-Some-Circle.radius) _ _ _ _ _ (rw c.magnitude-r.ensures.0 at c.draw_circle.ensures) in
    omega arith

-- either, or a command that only moves
pub loop-count-preserved : goal.loop-count-preserved
loop-count-preserved c = elim c.match-head.branch [
  | in-Some-Line w ↦
      let same : w.in-Some-Line.field-0 ≡ head.Line w.in-Some-Line.dx w.in-Some-Line.dy = rw w.in-Some-Line.is at w.in-Some-Line.field-0-is in
      rw (w.screen-is, w.store-is, w.pointer-is, w.position-is, w.paint-is, w.move_by-position.ensures)
      (batching_next c.loop-count.invariant c.loop-count-test.true (head.Line w.in-Some-Line.dx w.in-Some-Line.dy) _ _ _ _ _
      (rw same at (rw w.in-Some-Line.is at c.head_at-head.ensures)) refl w.draw_trace.auto.screen w.draw_trace.auto.store refl
      (line_painted _ _ _ _ _ _ w.whole_line.ensures.0 w.trace_of-line.ensures w.draw_trace.ensures))
  | in-Some-Circle w ↦
      let same : w.in-Some-Circle.field-0 ≡ head.Circle w.in-Some-Circle.radius = rw w.in-Some-Circle.is at w.in-Some-Circle.field-0-is in
      rw (w.screen-is, w.store-is, w.pointer-is, w.position-is, w.paint-is)
      (batching_next c.loop-count.invariant c.loop-count-test.true (head.Circle w.in-Some-Circle.radius) _ _ _ _ _
      (rw same at (rw w.in-Some-Circle.is at c.head_at-head.ensures)) refl w.draw_circle.auto.screen w.draw_circle.auto.store refl
      (rw w.magnitude-r.ensures.0 at w.draw_circle.ensures))
  | in_default+in-Some w ↦
      rw (w.screen-is, w.store-is, w.pointer-is, w.position-is, w.paint-is)
      (batching_moved c.loop-count.invariant c.loop-count-test.true _ _ c.head_at-head.ensures (sym w.in-Some.is ∙ w.only_moved_by.ensures))
]
