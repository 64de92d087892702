-- A pixel blended: as a change of its surface, and as the byte that the code stores.
use Rattle.std.specs.Prelude.{ℕ, ◌+◌, ◌*◌, cond, ◌&&◌, pos}
use Rattle.model.specs.Words.{bit, num, within}
use Rattle.model.specs.Coordinates.{at}
use Rattle.model.specs.Pixels.{Change}
use Rattle.model.specs.Dots.{dot, change_of}
use Rattle.model.specs.declared.Surface.{Surface}
use Rattle.model.specs.declared.Pen.{Pen}
use Rattle.model.specs.declared.Source.{Source}
use Rattle.raster.specs.declared.place.PixelPlace.{PixelPlace}
use Rattle.raster.specs.Operations.{Truth, chosen}

-- the change that a dot at (x,y) makes: the pixel becomes the blend of a source and of its old value
abbrev pub blending : Surface → Pen → Source → ℕ → ℕ → Change
blending s pen source x y = change_of s pen (dot (at (pos x) (pos y)) source)

-- the byte that holds a pixel at a place of it, the pixel's bits whose mask is 1 replaced by the truth
-- table's entries
unfoldable pub overlaid : ℕ → PixelPlace → ℕ → ℕ → Truth → ℕ → ℕ
overlaid old p b mask t source =
    num 8 (λ i. cond (bit mask (8 * p.half + i) && within p.shift b i) (bit (chosen t source old) i) (bit old i))
