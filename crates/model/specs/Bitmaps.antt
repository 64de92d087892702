-- Bitmaps (01, "Screen, panes, stores" and DEF_BITMAP): rows of words, where a pixel lies, DEF_BITMAP's rule.
-- The pane and a bitmap in the store are one kind of surface.
use Rattle.std.specs.Prelude.{ℕ, ◌+◌, ◌-◌, ◌*◌, ◌/◌, ◌%◌, ◌≤◌, ◌≡◌, Bool, true, false, cond, not, ◌&&◌, ◌||◌, List, ltb, eqb, length}
use Rattle.model.specs.Words.{field_at}
pub use Rattle.model.specs.declared.Geometry.{Geometry}
pub use Rattle.model.specs.declared.Row.{Row}
pub use Rattle.model.specs.declared.Bitmap.{Bitmap}
use Rattle.model.specs.declared.Bitmap.TheVariants as bitmap
pub use Rattle.model.specs.declared.Surface.{Surface}

-- ## Rows of words

-- "depth b of 1, 2, 4 or 8 bits"
abbrev pub is_depth : ℕ → Bool
is_depth b = eqb b 1 || (eqb b 2 || (eqb b 4 || eqb b 8))

-- .. as contracts and laws use it: b bits to a pixel, e pixels to a byte
pub record Depth (b : ℕ) : Type 0 where
  pub e : ℕ
  pub fills : b * e ≡ 8

-- "A row takes ceil(width × b / 16) words"
abbrev pub row_words : ℕ → ℕ → ℕ
row_words width b = (width * b + 15) / 16

-- "Column c lies in word floor(c × b / 16) of its row .."
abbrev pub word_of : ℕ → ℕ → ℕ
word_of b c = c * b / 16

-- ".. shifted left by 16 − b − (c × b mod 16)"
abbrev pub shift_of : ℕ → ℕ → ℕ
shift_of b c = 16 - b - c * b % 16

-- the bit of the buffer at which column c of row y begins, in rows of so many words from a base byte on
unfoldable pub grid_bit : ℕ → ℕ → ℕ → ℕ → ℕ → ℕ
grid_bit base words b c y = 8 * base + 16 * (y * words + word_of b c) + shift_of b c

-- ## Surfaces

-- the bit of the buffer at which pixel (x,y) begins
unfoldable pub place_bit : Surface → ℕ → ℕ → ℕ
place_bit s x y = grid_bit s.base s.words s.bits (s.left + x) (s.top + y)

-- where pixel (x,y) lies in its word
unfoldable pub place_shift : Surface → ℕ → ℕ
place_shift s x = shift_of s.bits (s.left + x)

unfoldable pub inside : Surface → ℕ → ℕ → Bool
inside s x y = ltb x s.width && ltb y s.height

-- the value of pixel (x,y): its b-bit number; 0 outside
unfoldable pub pixels : Surface → List ℕ → ℕ → ℕ → ℕ
pixels s buffer x y = cond (inside s x y) (field_at buffer (place_bit s x y) s.bits) 0

-- the surface lies in the buffer: a depth of the four, its columns in its rows, and its rows in the buffer
pub record Fits (s : Surface) (buffer : List ℕ) : Type 0 where
  pub depth : Depth s.bits
  pub right : (s.left + s.width) * s.bits ≤ 16 * s.words
  pub long : s.base + 2 * ((s.top + s.height) * s.words) ≤ length buffer

-- "Pixel (x,y) of a pane is screen pixel (left + x, top + y)"
unfoldable pub pane_surface : Geometry → Row → Surface
pane_surface g r =
    record {
      base = 0;
      words = row_words g.width g.depth;
      bits = g.depth;
      left = r.left;
      top = r.top;
      width = r.width;
      height = r.height;
    }

-- "A store bitmap is laid out so with its own bits per pixel for b"
unfoldable pub store_surface : ℕ → ℕ → ℕ → ℕ → Surface
store_surface a xmax ymax b =
    record {
      base = a;
      words = row_words (xmax + 1) b;
      bits = b;
      left = 0;
      top = 0;
      width = xmax + 1;
      height = ymax + 1;
    }

-- no pixels
abbrev pub nowhere : Surface
nowhere = record { base = 0; words = 0; bits = 0; left = 0; top = 0; width = 0; height = 0 }

-- a bitmap is the pane
abbrev pub is_pane : Bitmap → Bool
is_pane bitmap.Absent = false
is_pane (bitmap.Pane xmax ymax b) = true
is_pane (bitmap.Store a xmax ymax b) = false

unfoldable pub surface_of : Geometry → Row → Bitmap → Surface
surface_of g r bitmap.Absent = nowhere
surface_of g r (bitmap.Pane xmax ymax b) = pane_surface g r
surface_of g r (bitmap.Store a xmax ymax b) = store_surface a xmax ymax b

-- ## DEF_BITMAP's rule

-- "address 200000 hex means the pane"
abbrev pub pane_address : ℕ
pane_address = 0x200000

abbrev pub bitmap_of : ℕ → ℕ → ℕ → ℕ → Bitmap
bitmap_of a xmax ymax b = cond (eqb a pane_address) (bitmap.Pane xmax ymax b) (bitmap.Store a xmax ymax b)

-- "then xmax + 1, ymax + 1 and bits per pixel equal the pane's width, height and b", broken
unfoldable pub pane_bitmap_bad : Geometry → Row → ℕ → ℕ → ℕ → Bool
pane_bitmap_bad g r xmax ymax b = not (eqb (xmax + 1) r.width && (eqb (ymax + 1) r.height && eqb b g.depth))

-- the bytes of a store bitmap's rows
abbrev pub bitmap_bytes : ℕ → ℕ → ℕ → ℕ
bitmap_bytes xmax ymax b = 2 * (row_words (xmax + 1) b * (ymax + 1))

-- "Any other bitmap has an even address, xmax and ymax up to 7FFF hex, 1, 2, 4 or 8 bits, rows as above, all
-- inside the store", broken; by the store's length
unfoldable pub store_bitmap_bad : ℕ → ℕ → ℕ → ℕ → ℕ → Bool
store_bitmap_bad len a xmax ymax b =
    eqb (a % 2) 1
    || (ltb 0x7FFF xmax || (ltb 0x7FFF ymax || (not (is_depth b) || ltb len (a + bitmap_bytes xmax ymax b))))

-- the rule broken; no bitmap breaks none
unfoldable pub rule_broken : Geometry → Row → Bitmap → Bool
rule_broken g r bitmap.Absent = false
rule_broken g r (bitmap.Pane xmax ymax b) = pane_bitmap_bad g r xmax ymax b
rule_broken g r (bitmap.Store a xmax ymax b) = store_bitmap_bad r.len a xmax ymax b

-- ## Bytes in common

-- the numbers from a, m of them, and from b, n of them, have one in common
abbrev pub share_span : ℕ → ℕ → ℕ → ℕ → Bool
share_span a m b n = ltb 0 m && (ltb 0 n && (ltb a (b + n) && ltb b (a + m)))

-- bytes of the store, n from a on, touch a bitmap: share a byte with its rows; none touch the pane
unfoldable pub touches : Bitmap → ℕ → ℕ → Bool
touches bitmap.Absent a n = false
touches (bitmap.Pane xmax ymax b) a n = false
touches (bitmap.Store base xmax ymax b) a n = share_span a n base (bitmap_bytes xmax ymax b)
