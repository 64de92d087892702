-- The minor offset of a line's pixels, by the line's axes: n is the larger magnitude and m the smaller (01, LINE).
use Rattle.std.specs.Prelude.{◌≡◌, ℕ, ◌+◌, ◌*◌, ◌%◌, ◌<◌, ◌≤◌}
use Rattle.model.specs.Lines.{minor_at}
use Rattle.spans.specs.Spans.{longest_span}
use Rattle.traces.specs.declared.slopes.Axes.{Axes}
use Rattle.traces.specs.declared.slopes.Slope.{Slope}

-- the most pixels that a line has, as a horizontal one has
abbrev pub longest_line : ℕ
longest_line = longest_span

-- the magnitudes are in order, and small
pub record Sloped (a : Axes) : Type 0 where
  pub order : a.smaller ≤ a.larger
  pub small : a.larger < longest_line

-- "the minor floor((2 × i × m + n) / (2 × n))" (01, LINE): the minor offset of pixel i
abbrev pub minor_of : Axes → ℕ → ℕ
minor_of a i = minor_at a.larger a.smaller i

-- .. and the rest of its division
abbrev pub rest_of : Axes → ℕ → ℕ
rest_of a i = (2 * i * a.smaller + a.larger) % (2 * a.larger)

pub record SlopeAt (a : Axes) (i : ℕ) (s : Slope) : Type 0 where
  pub at : s.at ≡ minor_of a i
  pub rest : s.rest ≡ rest_of a i

-- pixel r is the first of a line whose minor offset is j or more
pub record Reaches (a : Axes) (j r : ℕ) : Type 0 where
  pub from : (i : ℕ) → i ≤ a.larger → r ≤ i → j ≤ minor_of a i
  pub below : (i : ℕ) → i ≤ a.larger → i < r → minor_of a i < j
