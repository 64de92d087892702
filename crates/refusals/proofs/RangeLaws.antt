-- Loops over the first rows of a table that join a test at each row, or at each pair of rows.
use mathlib.Core.Path.{◌≡◌}
use mathlib.Core.Bool.{Bool, ◌||◌}
use mathlib.Core.List.{List}
use Prim.Native.Nat.{ℕ, ◌+◌}
use Rattle.model.specs.declared.Row.{Row}
use Rattle.model.specs.Ranges.{any_below}
use Rattle.model.specs.Setup.{row_at}
use Rattle.model.proofs.SetupLaws.{any_below_more}
use Rattle.refusals.specs.Sizes.{some_row, some_pair}

module _ (rows : List Row) (i : ℕ) (b t : Bool) where
  pub some_row_more : (f : Row → Bool) → b ≡ f (row_at rows i) → t ≡ some_row i f rows → (b || t) ≡ some_row (i + 1) f rows
  unfolding some_row
  some_row_more f = any_below_more (λ k. f (row_at rows k)) i

  pub some_pair_more : (f : Row → Row → Bool) → b ≡ some_row i (λ s. f s (row_at rows i)) rows → t ≡ some_pair i f rows → (b || t) ≡ some_pair (i + 1) f rows
  unfolding some_row some_pair
  some_pair_more f = any_below_more (λ j. any_below j (λ k. f (row_at rows k) (row_at rows j))) i
