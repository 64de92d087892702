-- `strips::weaves::woven` meets its contract: the strips before the loop's place are woven.
use mathlib.Core.Path.{◌≡◌}
use lib.ListN.{length}
use Rattle.strips.proofs.WeaveLaws.{Strips}
use Rattle.strips.proofs.weaves.woven.Given as goal

abbrev pub invariant-loop-t : goal.invariant-loop-t
invariant-loop-t l = Strips l.fore l.back l.pattern l.bits l.t l.strips × (length l.strips ≡ 514)
