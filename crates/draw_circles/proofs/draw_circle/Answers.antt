-- `draw_circles::draw_circle` meets its contract: the centre alone, nothing where the columns or the rows miss the limits, or the circle on the
-- sheet of the target, in the buffer that holds it.
use Rattle.std.proofs.Common.{rules}
use Rattle.draw_circles.proofs.OutsideLaws.{columns_outside, rows_outside}
use Rattle.draw_circles.proofs.TargetSheetLaws.{screen_painted, store_painted}
use Rattle.draw_circles.proofs.draw_circle.Goals as goal
use Rattle.draw_circles.proofs.draw_circle.Goals.{then-eq-via-then-eq, then-eq-via-else-eq+then-eq-2}

pub returns-then-eq : goal.returns-then-eq
returns-then-eq c =
    let a = c.args in
    elim c.then-eq.branch [
      | then-eq-via-then-eq w ↦ columns_outside a.t a.centre a.r c.if-r-eq0.false (c.overlap_of-columns.ensures.none (search rules)) _
      | then-eq-via-else-eq+then-eq-2 w ↦ rows_outside a.t a.centre a.r c.if-r-eq0.false (c.overlap_of-rows.ensures.none (search rules)) _
    ]

pub returns-then-t : goal.returns-then-t
returns-then-t c =
    let a = c.args in
    screen_painted a.t a.centre _ a.r c.requires.2 c.ring.ensures c.if-t.true a.store.now

pub returns-else-t : goal.returns-else-t
returns-else-t c =
    let a = c.args in
    store_painted a.t a.centre _ a.r c.requires.2 c.ring-else-t.ensures c.if-t.false a.screen.now
