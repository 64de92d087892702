-- Dots (01, "Pixels"): what a drawing command draws, as a list of places with their sources; which of them
-- are visible, and what they change.
use Rattle.std.specs.Prelude.{ℕ, ◌+◌, Bool, true, false, ◌&&◌, List, [], ◌∷◌, ◌++◌, ltb, ℤ, pos, negsuc}
use Rattle.model.specs.Words.{digit}
use Rattle.model.specs.Coordinates.{Place, Point, between, index}
use Rattle.model.specs.Bitmaps.{Surface, place_shift}
use Rattle.model.specs.Pixels.{Source, Pen, blend, Change}
use Rattle.model.specs.declared.Source.TheVariants as source
pub use Rattle.model.specs.declared.Clip.{Clip}

pub record Dot : Type 0 where
  pub place : Place
  pub source : Source

abbrev pub dot : Place → Source → Dot
dot p s = record { place = p; source = s }

-- what a drawing command draws, where the position then is, and whether the trap flag is set
pub record Drawing : Type 0 where
  pub dots : List Dot
  pub position : Point
  pub trap : Bool

abbrev pub drawing : List Dot → Point → Drawing
drawing ds p = record { dots = ds; position = p; trap = false }

-- dots before a drawing
abbrev pub prepended : List Dot → Drawing → Drawing
prepended ds d = record { dots = ds ++ d.dots; position = d.position; trap = d.trap }

abbrev pub something : Source → Bool
something source.Nothing = false
something (source.Colour w) = true
something (source.Copied v) = true

-- a coordinate from 0 up to n − 1
abbrev pub below : ℕ → ℤ → Bool
below n (pos k) = ltb k n
below n (negsuc k) = false

-- a place that "lies in bitmap and clip"
abbrev pub lies : Surface → Clip → Place → Bool
lies s c p =
    below s.width p.x
    && (below s.height p.y && (between c.xmin c.xmax p.x && between c.ymin c.ymax p.y))

-- "A pixel is drawn if it lies in bitmap and clip and isn't a 0 of a pattern or cell under transparency; a
-- copied 0 is drawn"
unfoldable pub visible : Surface → Clip → Dot → Bool
visible s c d = something d.source && lies s c d.place

-- how many dots are visible
unfoldable pub hits : Surface → Clip → List Dot → ℕ
hits s c [] = 0
hits s c (d ∷ ds) = digit (visible s c d) + hits s c ds

-- the change that a visible dot makes
abbrev pub change_of : Surface → Pen → Dot → Change
change_of s pen d =
    record {
      x = index d.place.x;
      y = index d.place.y;
      new = blend s.bits (place_shift s (index d.place.x)) pen d.source;
    }

abbrev pub keep : {A : Type 0} → Bool → A → List A → List A
keep true a l = a ∷ l
keep false a l = l

-- the changes that a list of dots makes, in order
unfoldable pub changes_of : Surface → Clip → Pen → List Dot → List Change
changes_of s c pen [] = []
changes_of s c pen (d ∷ ds) = keep (visible s c d) (change_of s pen d) (changes_of s c pen ds)
