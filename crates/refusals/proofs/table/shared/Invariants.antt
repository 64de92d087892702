-- What a row shares with the first rows. The invariant: the two flags are the tests joined over the rows passed.
use mathlib.Core.Path.{◌≡◌}
use Rattle.model.specs.Setup.{share_pixel, share_byte}
use Rattle.refusals.specs.Sizes.{some_row}
use Rattle.refusals.proofs.table.shared.Given as goal

abbrev pub invariant-loop-i : goal.invariant-loop-i
invariant-loop-i l = (l.pixel ≡ some_row l.i (λ s. share_pixel s l.r) l.rows) × (l.byte ≡ some_row l.i (λ s. share_byte s l.r) l.rows)
