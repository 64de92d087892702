-- `cover` meets its contract: a whole number of strips is put, and then the last sixteen bytes.
use mathlib.Core.Path.{◌≡◌}
use Prim.Native.Nat.{◌-◌, ◌%◌, ◌≤◌}
use Rattle.strips.specs.Strips.{Laid}
use Rattle.strips.proofs.fills.cover.Given as goal

abbrev pub invariant-loop-i : goal.invariant-loop-i
invariant-loop-i l = record {
  laid : Laid l.from l.i l.flip l.initial.buf l.buf;
  low : l.from ≤ l.i;
  high : l.i ≤ l.end;
  whole : (l.i - l.from) % 16 ≡ 0;
}

abbrev pub decreases-loop-i : goal.decreases-loop-i
decreases-loop-i l = l.end - l.i
