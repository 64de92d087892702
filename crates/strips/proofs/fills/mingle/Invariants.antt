-- `mingle` meets its contract: the bytes before k are mixed.
use Prim.Native.Nat.{◌+◌}
use Rattle.strips.specs.Strips.{Filled}
use Rattle.strips.proofs.fills.mingle.Given as goal

abbrev pub invariant-loop-k : goal.invariant-loop-k
invariant-loop-k l = Filled l.i (l.i + l.k) l.keep l.flip l.initial.buf l.buf
