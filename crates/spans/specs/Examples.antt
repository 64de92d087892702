-- Edges of spans, worked out by hand: a bitmap 16 by 4, and a clip of its columns 3 to 9 and rows 1 to 2.
use Rattle.std.specs.Prelude.{◌≡◌, Bool, true, false, ◌&&◌, List, ℕ, ◌+◌, ◌-◌, leb, ltb}
use Rattle.model.specs.Ranges.{listed}
use Rattle.model.specs.declared.Clip.{Clip}
use Rattle.model.specs.declared.Surface.{Surface}
use Rattle.model.specs.Dots.{lies}
use Rattle.spans.specs.declared.Span.{Span}
use Rattle.spans.specs.Spans.{span_place}

abbrev pub small_bitmap : Surface
small_bitmap = record { base = 0; words = 4; bits = 4; left = 0; top = 0; width = 16; height = 4 }

abbrev pub small_clip : Clip
small_clip = record { xmin = 3; ymin = 1; xmax = 9; ymax = 2 }

-- 20 pixels from a column and row that are kept 65,536 larger
abbrev pub twenty : ℕ → ℕ → Bool → Span
twenty x y left = record { x = x; y = y; left = left; count = 20; index = 0 }

-- which of its pixels lie in bitmap and clip
abbrev pub lying : Span → List Bool
lying s = listed 0 s.count (λ i. lies small_bitmap small_clip (span_place s i))

-- of 20 pixels those from the first edge to below the second
abbrev pub edged : ℕ → ℕ → List Bool
edged first second = listed 0 20 (λ i. leb first i && ltb i second)

pub record Worked : Type 0 where
  -- from column -2 to the right, in row 2: pixel 5 is in column 3, pixel 11 in column 9
  pub right : lying (twenty (65536 - 2) (65536 + 2) false) ≡ edged 5 12
  -- from column 12 to the left, in row 1: pixel 3 is in column 9, pixel 9 in column 3
  pub left : lying (twenty (65536 + 12) (65536 + 1) true) ≡ edged 3 10
  -- from column 10 to the right, in row 1: none
  pub outside : lying (twenty (65536 + 10) (65536 + 1) false) ≡ edged 0 0
