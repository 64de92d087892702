-- `traces::walks::walk_by` meets its contract. The loop's invariant: the pixels before pixel i are stamped, the spot is that of the last of them,
-- and its bit is the first of those that are left.
use Rattle.std.proofs.Common.{◌≡◌, ℕ, ◌+◌, ◌-◌}
use Rattle.traces.proofs.LoopLaws.{Walking}
use Rattle.traces.proofs.walks.walk_by.Given as goal

abbrev pub invariant-loop : goal.invariant-loop
invariant-loop g l =
    record {
      walking : Walking l.stamps l.base l.fn.from l.g (g.D.Dashes.digits l.fn.dashes) l.fn.buffer l.buffer l.spot l.counter;
      digits : (k : ℕ) → g.D.Dashes.digits l.rest k ≡ g.D.Dashes.digits l.fn.dashes (k + (l.counter - 1));
    }
