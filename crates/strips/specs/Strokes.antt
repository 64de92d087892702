-- Pixels drawn one by one: each drawn or not, with its own source, at its own place; and how many are drawn.
use Rattle.std.specs.Prelude.{ℕ, zero, suc, ◌+◌, ◌-◌, ◌%◌, Bool, List, []}
use Rattle.model.specs.Words.{bit, digit}
use Rattle.model.specs.Pixels.{Change}
use Rattle.model.specs.Dots.{keep}
use Rattle.model.specs.declared.Surface.{Surface}
use Rattle.model.specs.declared.Pen.{Pen}
use Rattle.model.specs.declared.Source.{Source}
use Rattle.raster.specs.Pixels.{blending}

-- pixel k: whether it is drawn, with what, and where
pub record Strokes : Type 0 where
  pub on : ℕ → Bool
  pub source : ℕ → Source
  pub x : ℕ → ℕ
  pub y : ℕ → ℕ

-- the changes of pixels i, i + 1, .. : n of them
unfoldable pub strokes : Surface → Pen → Strokes → ℕ → ℕ → List Change
strokes u pen f i zero = []
strokes u pen f i (suc n) =
    keep (f.on i) (blending u pen (f.source i) (f.x i) (f.y i)) (strokes u pen f (suc i) n)

-- how many of i, i + 1, .. pass a test: n of them
unfoldable pub shown : (ℕ → Bool) → ℕ → ℕ → ℕ
shown on i zero = 0
shown on i (suc n) = digit (on i) + shown on (suc i) n

-- a pattern's bit for pixel k
abbrev pub pattern_on : ℕ → ℕ → Bool
pattern_on pattern k = bit pattern (15 - k % 16)
