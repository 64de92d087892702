-- `fault_copies::rows_touch` meets its contract. The invariant: the flag is the test joined over the rows
-- passed.
use mathlib.Core.Path.{◌≡◌}
use mathlib.Core.Bool.{Bool}
use Prim.Native.Nat.{ℕ, ◌+◌, ◌*◌}
use Rattle.model.specs.declared.Surface.{Surface}
use Rattle.model.specs.declared.Bitmap.{Bitmap}
use Rattle.model.specs.Ranges.{any_below}
use Rattle.model.specs.Bitmaps.{touches}
use Rattle.fault_copies.proofs.rows_touch.Given as goal

-- whether bytes of row y + k touch
abbrev test : Bitmap → Surface → ℕ → ℕ → ℕ → ℕ → Bool
test active s y first size k = touches active (s.base + 2 * ((y + k) * s.words + first)) size

abbrev pub invariant-loop-j : goal.invariant-loop-j
invariant-loop-j l = l.found ≡ any_below l.j (test l.active l.s l.y l.first l.size)
