-- The bytes stand in the store from the address on. The invariant: the first i of them do.
use mathlib.Core.Path.{◌≡◌}
use lib.Seq.{paste}
use Rattle.call_store.proofs.put.write.Given as goal

abbrev pub invariant-loop-i : goal.invariant-loop-i
invariant-loop-i l = l.store ≡ paste l.initial.store l.address l.bytes l.i
