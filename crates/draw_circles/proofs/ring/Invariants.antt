-- `draw_circles::ring` meets its contract. The loop's invariant: the columns before i are drawn, and j is the one that passes for i.
use Prim.Native.Nat.{suc, ◌-◌}
use Rattle.draw_circles.proofs.EighthLaws.{Walking}
use Rattle.draw_circles.proofs.ring.Given as goal

abbrev pub invariant-loop-p : goal.invariant-loop-p
invariant-loop-p l = Walking l.s l.stamps l.r l.initial.buffer l.buffer l.hits l.p

abbrev pub decreases-loop-p : goal.decreases-loop-p
decreases-loop-p l = suc l.r - l.p.i
