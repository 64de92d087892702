-- Copies (01, "Pixels"): BIT_BLT and BIT_BLT_M as dots whose sources were all read first.
use Rattle.std.specs.Prelude.{ℕ, suc, ◌+◌, ◌-◌, ◌*◌, Bool, true, false, ◌||◌, List, leb, ℤ, pos, ◌+ℤ◌}
use Rattle.model.specs.Ranges.{any_below, listed, joined}
use Rattle.model.specs.Coordinates.{Place, Point, coord, offset, place, moved, index, negative}
use Rattle.model.specs.Bitmaps.{Geometry, Row, Surface, Bitmap, word_of, surface_of, pixels, touches}
use Rattle.model.specs.declared.Bitmap.TheVariants as bitmap
pub use Rattle.model.specs.declared.Block.{Block}
use Rattle.model.specs.declared.Source.TheVariants.{Copied}
use Rattle.model.specs.Dots.{Dot, dot, Drawing, drawing}

-- a source rectangle in whole numbers: from (sx,sy) to (sx+dx,sy+dy), both corners in
pub record Rectangle : Type 0 where
  pub sx : ℤ
  pub sy : ℤ
  pub dx : ℤ
  pub dy : ℤ

-- .. by its words
abbrev pub rectangle_of : Block → Rectangle
rectangle_of b = record { sx = coord b.x; sy = coord b.y; dx = coord b.dx; dy = coord b.dy }

-- what a bitmap shows: the pane by its reader, a store bitmap by the store
unfoldable pub seen : Geometry → Row → (ℕ → ℕ → ℕ) → List ℕ → Bitmap → ℕ → ℕ → ℕ
seen g r pixel_of store bitmap.Absent = λ x y. 0
seen g r pixel_of store (bitmap.Pane xmax ymax b) = pixel_of
seen g r pixel_of store (bitmap.Store a xmax ymax b) = pixels (surface_of g r (bitmap.Store a xmax ymax b)) store

-- "copies source (sx,sy) to (sx+dx,sy+dy), both corners in, to the position, as though all were read first;
-- no pattern"
unfoldable pub copy_dots : (ℕ → ℕ → ℕ) → Place → Rectangle → List Dot
copy_dots see p c =
    joined 0 (suc (index c.dy))
    (λ j. listed 0 (suc (index c.dx))
    (λ i. dot (offset p (pos i) (pos j)) (Copied (see (index c.sx + i) (index c.sy + j)))))

-- "The position becomes (x+dx+spacing, y)"
unfoldable pub copy : (ℕ → ℕ → ℕ) → ℕ → Point → Rectangle → Drawing
copy see spacing p c = drawing (copy_dots see (place p) c) (moved p (c.dx +ℤ coord spacing) (pos 0))

-- "29 a copy's dx or dy negative, its source outside its bitmap"
unfoldable pub block_bad : Surface → Rectangle → Bool
block_bad s c =
    negative c.dx
    || (negative c.dy
    || (negative c.sx
    || (negative c.sy
    || (leb s.width (index c.sx + index c.dx) || leb s.height (index c.sy + index c.dy)))))

-- the words of its row that hold a rectangle's pixels: the first, and how many
abbrev pub first_word : Surface → Rectangle → ℕ
first_word s c = word_of s.bits (index c.sx)

abbrev pub words_read : Surface → Rectangle → ℕ
words_read s c = suc (word_of s.bits (index c.sx + index c.dx)) - first_word s c

-- ".. or BIT_BLT_M's source sharing a byte with the active bitmap": for each row of the rectangle, the words
-- that hold its pixels
unfoldable pub block_touches : Bitmap → Surface → Rectangle → Bool
block_touches active s c =
    any_below (suc (index c.dy))
    (λ j. touches active (s.base + 2 * ((index c.sy + j) * s.words + first_word s c)) (2 * words_read s c))

-- by the active bitmap and the source's: pane to pane shares, pane and store don't
unfoldable pub sharing : Bitmap → Bitmap → Surface → Rectangle → Bool
sharing active bitmap.Absent s c = false
sharing bitmap.Absent (bitmap.Pane x y b) s c = false
sharing (bitmap.Pane xmax ymax bits) (bitmap.Pane x y b) s c = true
sharing (bitmap.Store a xmax ymax bits) (bitmap.Pane x y b) s c = false
sharing active (bitmap.Store a x y b) s c = block_touches active s c
