-- Pixels (01, "Pixels"): the source of a pixel, a pixel blended, a list of changes to a surface.
use Rattle.std.specs.Prelude.{ℕ, ◌+◌, ◌-◌, ◌%◌, Bool, true, false, cond, List, [], ◌∷◌}
use Rattle.model.specs.Words.{bit, num, put_field}
use Rattle.model.specs.Operations.{new_bit}
use Rattle.model.specs.Bitmaps.{Surface, place_bit, inside, pixels}
pub use Rattle.model.specs.declared.Pen.{Pen}
pub use Rattle.model.specs.declared.Source.{Source}
use Rattle.model.specs.declared.Source.TheVariants as source

-- "A pattern bit 1 gives foreground, 0 background if opaque, none if transparent"
abbrev pub pen_source : Pen → Bool → Bool → Source
pen_source pen transparent true = source.Colour pen.fore
pen_source pen true false = source.Nothing
pen_source pen false false = source.Colour pen.back

-- "Pixel i of a line, from 0, uses pattern bit 15 − (i mod 16)"
abbrev pub pattern_source : Pen → ℕ → Source
pattern_source pen i = pen_source pen pen.transparent (bit pen.pattern (15 - i % 16))

-- "Colours .. are used at the bits where the pixel lies in its word": bit i of a pixel's source, the pixel at
-- a shift
abbrev pub source_bit : Source → ℕ → ℕ → Bool
source_bit source.Nothing shift i = false
source_bit (source.Colour w) shift i = bit w (shift + i)
source_bit (source.Copied v) shift i = bit v i

-- "Each bit whose mask is 1 becomes the operation of source and old bit", the mask "used at the bits where
-- the pixel lies in its word": the new value of a pixel of b bits at a shift of its word
unfoldable pub blend : ℕ → ℕ → Pen → Source → ℕ → ℕ
blend b shift pen s old =
    num b (λ i. new_bit pen.op (bit pen.mask (shift + i)) (source_bit s shift i) (bit old i))

-- a change to one pixel of a surface: from its old value to its new one
pub record Change : Type 0 where
  pub x : ℕ
  pub y : ℕ
  pub new : ℕ → ℕ

-- one pixel of the buffer changed, all other bits kept; a change outside the surface is none
unfoldable pub change : Surface → Change → List ℕ → List ℕ
change s c buffer =
    cond (inside s c.x c.y) (put_field buffer (place_bit s c.x c.y) s.bits
    (c.new (pixels s buffer c.x c.y))) buffer

-- a list of changes, one after the other
unfoldable pub changes : Surface → List Change → List ℕ → List ℕ
changes s [] buffer = buffer
changes s (c ∷ cs) buffer = changes s cs (change s c buffer)
