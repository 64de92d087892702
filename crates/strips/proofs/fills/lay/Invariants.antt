-- `lay` meets its contract: the bytes before k are put.
use Prim.Native.Nat.{◌+◌}
use Rattle.strips.specs.Strips.{Laid}
use Rattle.strips.proofs.fills.lay.Given as goal

abbrev pub invariant-loop-k : goal.invariant-loop-k
invariant-loop-k l = Laid l.i (l.i + l.k) l.flip l.initial.buf l.buf
