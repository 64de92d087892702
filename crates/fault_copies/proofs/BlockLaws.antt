-- A block that is not bad: none of its numbers is negative, it lies in its bitmap, and its rows have small
-- addresses.
use mathlib.Core.Path.{◌≡◌, sym, ap, ◌∙◌}
use mathlib.Core.Bool.{false, ◌||◌}
use Prim.Native.Nat.{ℕ, ◌+◌, ◌*◌, ◌^◌, ◌≤◌, ◌<◌}
use native.Mathlib.Nat.{mul-le-mul_left, mul-le-mul_right}
use native.Mathlib.Omega.{arith}
use borrow.Author.Tests.{ltb-true, ltb-false, leb-false}
use lib.Dec.{ltb, leb}
use lib.IntN.{pos}
use Rattle.model.specs.declared.Block.{Block}
use Rattle.model.specs.declared.Surface.{Surface}
use Rattle.model.specs.Coordinates.{coord, index, negative}
use Rattle.model.specs.Bitmaps.{word_of}
use Rattle.model.specs.Copies.{Rectangle, rectangle_of, block_bad}
use Rattle.model.proofs.Decisions.{split, holds, either_false}
use Rattle.model.proofs.PlaceLaws.{depth_bounds}
use Rattle.coordinates.proofs.SignedLaws.{coord_low, coord_high}
use Rattle.bitmaps.specs.Areas.{Readable}

-- ## The block

-- a block's words as numbers
abbrev pub plain_rectangle : Block → Rectangle
plain_rectangle b = record { sx = pos b.x; sy = pos b.y; dx = pos b.dx; dy = pos b.dy }

-- a block none of whose numbers is negative, in its bitmap
pub record BlockWithin (s : Surface) (b : Block) : Type 0 where
  pub is : rectangle_of b ≡ plain_rectangle b
  pub east : b.x + b.dx < s.width
  pub south : b.y + b.dy < s.height
  pub tall : b.y + b.dy < 65536

coord_index : (x : ℕ) → negative (coord x) ≡ false → (x < 32768) × (coord x ≡ pos x)
coord_index x e = split (ltb x 32768)
    (λ l. let h = ltb-true x 32768 l in (h, coord_low x h))
    (λ l. absurd (holds (sym (sym (ap negative (coord_high x (ltb-false x 32768 l))) ∙ e))))

pub block_bad_within : (s : Surface) (b : Block) → block_bad s (rectangle_of b) ≡ false → BlockWithin s b
unfolding block_bad
block_bad_within s b e =
    let w = leb s.width (index (coord b.x) + index (coord b.dx)) in
    let h = leb s.height (index (coord b.y) + index (coord b.dy)) in
    let y_on = negative (coord b.y) || (w || h) in
    let x_on = negative (coord b.x) || y_on in
    let p = either_false (negative (coord b.dx)) (negative (coord b.dy) || x_on) e in
    let q = either_false (negative (coord b.dy)) x_on p.1 in
    let u = either_false (negative (coord b.x)) y_on q.1 in
    let v = either_false (negative (coord b.y)) (w || h) u.1 in
    let z = either_false w h v.1 in
    let dx = coord_index b.dx p.0 in
    let dy = coord_index b.dy q.0 in
    let x = coord_index b.x u.0 in
    let y = coord_index b.y v.0 in
    record {
      is = λ i. record { sx = x.1 i; sy = y.1 i; dx = dx.1 i; dy = dy.1 i };
      east = leb-false s.width (b.x + b.dx) (sym (λ i. leb s.width (index (x.1 i) + index (dx.1 i))) ∙ z.0);
      south = leb-false s.height (b.y + b.dy) (sym (λ i. leb s.height (index (y.1 i) + index (dy.1 i))) ∙ z.1);
      tall = omega (arith, y.0, dy.0);
    }

-- ## Its rows

-- columns in order lie in words in order
pub word_le : (b c d : ℕ) → c ≤ d → word_of b c ≤ word_of b d
word_le b c d h = omega (arith, mul-le-mul_right b h)

pub product_small : (c b : ℕ) → c < 65536 → b ≤ 8 → c * b ≤ 65535 * 8
product_small c b h k = omega (arith, mul-le-mul_left c k)

module _ {s : Surface} (d : Readable s (2 ^ 32)) where
  pub bits_small : s.bits ≤ 8
  bits_small = (depth_bounds d.depth).1

  -- a row's words lie before the surface's end
  pub row_small : {b : Block} → BlockWithin s b → (j : ℕ) → j ≤ b.dy → s.base + 2 * ((b.y + j) * s.words + word_of s.bits b.x) < 2 ^ 32
  row_small {b} w j h =
      let p = depth_bounds d.depth in
      let east : b.x + 1 ≤ s.left + s.width = omega (arith, w.east) in
      let south : b.y + j + 1 ≤ s.top + s.height = omega (arith, w.south) in
      let f : word_of s.bits b.x < s.words = omega (arith, d.right, mul-le-mul_right s.bits east, p.0) in
      omega (arith, d.long, mul-le-mul_right s.words south, f)
