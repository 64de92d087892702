-- `draw_circles::ring` meets its contract. The loop's invariant: the columns before i are drawn, and j is the one that passes for i.
use native.Mathlib.Omega.{arith}
use Rattle.draw_circles.proofs.EighthLaws.{walking_first, walking_next, walking_done}
use Rattle.draw_circles.proofs.ring.Goals as goal

pub loop-p-init : goal.loop-p-init
loop-p-init c = walking_first _ _ _ _ c.requires.1.some

pub loop-p-preserved : goal.loop-p-preserved
loop-p-preserved c =
    walking_next c.loop-p.p c.loop-p.invariant (omega (arith, c.loop-p-test.true)) c.reflections-hits.ensures c.next_point-p.ensures

pub returns : goal.returns
returns c =
    walking_done c.loop-p.p c.loop-p.invariant c.requires.1.some (omega (arith, c.loop-p-test.false))
