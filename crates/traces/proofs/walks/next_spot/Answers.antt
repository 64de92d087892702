-- `traces::walks::next_spot` meets its contract.
use Rattle.std.proofs.Common.{sym, le-ltb, lt-ltb}
use Rattle.model.proofs.Decisions.{cond_true, cond_false}
use Rattle.traces.specs.Walks.{next_spot}
use Rattle.traces.proofs.walks.next_spot.Goals as goal

pub returns-then-s-g : goal.returns-then-s-g
unfolding next_spot
returns-then-s-g c = sym (cond_true _ _ (lt-ltb _ _ c.if-s-g.true))

pub returns-else-s-g : goal.returns-else-s-g
unfolding next_spot
returns-else-s-g c = sym (cond_false _ _ (le-ltb _ _ c.if-s-g.false))
