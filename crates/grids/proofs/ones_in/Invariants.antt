-- `grids::ones_in` meets its contract: the rows before j are counted.
use mathlib.Core.Path.{◌≡◌}
use Prim.Native.Nat.{◌-◌}
use Rattle.grids.specs.Grids.{ones_in}
use Rattle.grids.proofs.ones_in.Given as goal

abbrev pub invariant-loop-j : goal.invariant-loop-j
invariant-loop-j l = l.total ≡ ones_in l.rows l.hidden l.n l.fn.f.first (l.j - l.fn.f.first)
