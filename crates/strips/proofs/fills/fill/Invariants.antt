-- `fill` meets its contract: a whole number of strips is mixed, and then what is left, byte by byte.
use mathlib.Core.Path.{◌≡◌}
use Prim.Native.Nat.{◌+◌, ◌-◌, ◌%◌, ◌≤◌}
use Rattle.strips.specs.Strips.{Filled}
use Rattle.strips.proofs.fills.fill.Given as goal

abbrev pub invariant-loop-i : goal.invariant-loop-i
invariant-loop-i l = record {
  filled : Filled l.from l.i l.keep l.flip l.initial.buf l.buf;
  low : l.from ≤ l.i;
  high : l.i ≤ l.end;
  whole : (l.i - l.from) % 16 ≡ 0;
}

abbrev pub decreases-loop-i : goal.decreases-loop-i
decreases-loop-i l = l.end - l.i

abbrev pub invariant-loop-k : goal.invariant-loop-k
invariant-loop-k l = Filled l.from (l.i + l.k) l.keep l.flip l.fn.buf l.buf
