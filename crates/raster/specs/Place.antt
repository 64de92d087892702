-- What a caller has to show of a pixel, and where the pixel lies.
use Rattle.std.specs.Prelude.{ℕ, ◌+◌, ◌*◌, ◌/◌, ◌^◌, ◌<◌, ◌≤◌, ◌≡◌, List}
use Rattle.model.specs.Bitmaps.{place_bit, place_shift, Depth, Fits}
use Rattle.model.specs.declared.Surface.{Surface}
use Rattle.raster.specs.declared.place.PixelPlace.{PixelPlace}

-- the numbers on the way to a pixel's byte fit the machine's
pub record PlaceFits (s : Surface) (x y : ℕ) : Type 0 where
  pub depth : Depth s.bits
  pub column : s.left + x < 65536
  pub row : s.top + y < 2 ^ 64
  pub byte : place_bit s x y / 8 < 2 ^ 64

-- a pixel begins at bit `shift` of byte `at`, which is the low or the high half of its word
pub record Lies (s : Surface) (x y : ℕ) (p : PixelPlace) : Type 0 where
  pub bit : 8 * p.at + p.shift ≡ place_bit s x y
  pub word : 8 * p.half + p.shift ≡ place_shift s x
  pub inside : p.shift + s.bits ≤ 8
  pub half : p.half < 2

-- pixel (x,y) of a surface that lies in the buffer; the paper's widest bitmap has 32,768 columns, its widest
-- screen 4,096
pub record Drawable (s : Surface) (buffer : List ℕ) (x y : ℕ) : Type 0 where
  pub fits : Fits s buffer
  pub small : s.left + s.width ≤ 65536
  pub column : x < s.width
  pub row : y < s.height
