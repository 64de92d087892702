-- How many dots a command draws: no more than `most_pixels`, from the definitions of what each draws.
use mathlib.Core.Path.{◌≡◌, refl, ap}
use mathlib.Core.Bool.{Bool}
use mathlib.Core.List.{List, [], ◌∷◌}
use Prim.Native.Nat.{ℕ, zero, suc, ◌+◌, ◌*◌, ◌≤◌, suc-le-suc}
use native.Mathlib.Nat.{mul-le-mul_right}
use native.Mathlib.Omega.{arith}
use lib.IntN.{ℤ, pos, neg_ℤ, nat_abs}
use lib.ListN.{length, length-append}
use Rattle.model.specs.declared.Pen.{Pen}
use Rattle.model.specs.declared.Point.{Point}
use Rattle.model.specs.declared.Text.{Text}
use Rattle.model.specs.declared.Block.{Block}
use Rattle.model.specs.Ranges.{listed}
use Rattle.model.specs.Words.{word_at}
use Rattle.model.specs.Coordinates.{Place, coord, index, offset, sign_as, place, moved}
use Rattle.model.specs.Lines.{Pair, Triple, pixels_from, segment_dots, line_dots, line, point_at, segments, polyline, pairs_at, scan_lines, triples_at}
use Rattle.model.specs.Lines.{walk, along_x, along_y, once, patterned, rectangle}
use Rattle.model.specs.Circles.{circle}
use Rattle.model.specs.Copies.{rectangle_of, copy_dots, copy}
use Rattle.model.specs.Runs.{most_pixels}
use Rattle.model.specs.Glyphs.{height_of, width_of, glyph_dots, passed, string}
use Rattle.model.proofs.OutlineLaws.{once_length}
use Rattle.model.proofs.CircleLaws.{circle_length}
use Rattle.coordinates.proofs.SignedLaws.{nat_abs_coord, nat_abs_negate, index_coord}
use Rattle.canvas.proofs.CanvasLaws.{listed_length, joined_length}
use Rattle.draw_lines.proofs.SegmentLaws.{segment_dots_few}

-- ## Lists

le_of_eq_le : {m n k : ℕ} → m ≡ n → n ≤ k → m ≤ k
le_of_eq_le e h = omega arith

le_then : {m n k : ℕ} → m ≤ n → n ≤ k → m ≤ k
le_then h k = omega arith

-- ## Lines

pub point_few : (pen : Pen) (p : Point) → length (point_at pen p).dots ≤ most_pixels
unfolding point_at
point_few pen p = omega arith

pub line_few : (pen : Pen) (p : Point) (dx dy : ℕ) → length (line pen p (coord dx) (coord dy)).dots ≤ most_pixels
unfolding line
line_few pen p dx dy = omega (arith, segment_dots_few pen (place p) (coord dx) (coord dy) 0 0 (nat_abs_coord dx) (nat_abs_coord dy))

-- so many segments
segments_length : (pen : Pen) (first index i n : ℕ) (f : ℕ → Pair) (p : Point) → ((k : ℕ) → nat_abs (f k).dx ≤ 32768)
    → ((k : ℕ) → nat_abs (f k).dy ≤ 32768) → length (segments pen p first index (listed i n f)).dots ≤ n * 32769
unfolding segments listed
segments_length pen first index i zero f p h k = omega arith
segments_length pen first index i (suc n) f p h k =
    let q = moved p (f i).dx (f i).dy in
    let next = index + pixels_from first (f i).dx (f i).dy in
    omega (
      arith,
      length-append (segment_dots pen (place p) (f i).dx (f i).dy first index) (segments pen q 1 next (listed (suc i) n f)).dots,
      segment_dots_few pen (place p) (f i).dx (f i).dy first index (h i) (k i),
      segments_length pen 1 next (suc i) n f q h k,
    )

scan_lines_length : (pen : Pen) (i n : ℕ) (f : ℕ → Triple) (p : Point) → ((k : ℕ) → nat_abs (f k).len ≤ 32768)
    → length (scan_lines pen p (listed i n f)).dots ≤ n * 32769
unfolding scan_lines listed
scan_lines_length pen i zero f p h = omega arith
scan_lines_length pen i (suc n) f p h =
    let q = moved p (f i).dx (f i).dy in
    omega (
      arith,
      length-append (line_dots pen (place q) (f i).len (pos 0)) (scan_lines pen q (listed (suc i) n f)).dots,
      segment_dots_few pen (place q) (f i).len (pos 0) 0 0 (h i) (omega arith),
      scan_lines_length pen (suc i) n f q h,
    )

module _ (pen : Pen) (p : Point) (store : List ℕ) (a n : ℕ) (h : n ≤ 65535) where
  pub polyline_few : length (polyline pen p (pairs_at store a n)).dots ≤ most_pixels
  unfolding pairs_at polyline
  polyline_few =
      le_then (segments_length pen 0 0 0 n _ p (λ k. nat_abs_coord (word_at store (a + 4 * k))) (λ k. nat_abs_coord (word_at store (a + 4 * k + 2))))
      (mul-le-mul_right 32769 h)

  pub scan_lines_few : length (scan_lines pen p (triples_at store a n)).dots ≤ most_pixels
  unfolding triples_at
  scan_lines_few = le_then (scan_lines_length pen 0 n _ p (λ k. nat_abs_coord (word_at store (a + 6 * k + 4)))) (mul-le-mul_right 32769 h)

-- ## RECT

patterned_length : (pen : Pen) (i : ℕ) (l : List Place) → length (patterned pen i l) ≡ length l
unfolding patterned
patterned_length pen i [] = refl
patterned_length pen i (p ∷ ps) = ap suc (patterned_length pen (suc i) ps)

walk_length : (p : Place) (dx dy : ℤ) → nat_abs dx ≤ 32768 → nat_abs dy ≤ 32768 → length (walk p dx dy) ≤ 131076
unfolding walk along_x along_y
walk_length p dx dy h k =
    let x = listed_length 0 (suc (nat_abs dx)) (λ i. offset p (sign_as dx i) (pos 0)) in
    let y = listed_length 0 (suc (nat_abs dy)) (λ i. offset (offset p dx (pos 0)) (pos 0) (sign_as dy i)) in
    let back = listed_length 0 (suc (nat_abs (neg_ℤ dx))) (λ i. offset (offset p dx dy) (sign_as (neg_ℤ dx) i) (pos 0)) in
    let up = listed_length 0 (suc (nat_abs (neg_ℤ dy))) (λ i. offset (offset p (pos 0) dy) (pos 0) (sign_as (neg_ℤ dy) i)) in
    simp length-append (omega (arith, x, y, back, up, nat_abs_negate dx, nat_abs_negate dy))

pub rectangle_few : (pen : Pen) (p : Point) (dx dy : ℕ) → length (rectangle pen p (coord dx) (coord dy)).dots ≤ most_pixels
unfolding rectangle
rectangle_few pen p dx dy =
    let l = walk (place p) (coord dx) (coord dy) in
    omega (arith, patterned_length pen 0 (once [] l), once_length [] l, walk_length (place p) (coord dx) (coord dy) (nat_abs_coord dx) (nat_abs_coord dy))

-- ## CIRCLE

pub circle_few : (pen : Pen) (p : Point) (radius : ℕ) → length (circle pen p (nat_abs (coord radius))).dots ≤ most_pixels
circle_few pen p radius = omega (arith, circle_length pen p (nat_abs (coord radius)), nat_abs_coord radius)

-- ## Copies

pub copy_few : (see : ℕ → ℕ → ℕ) (spacing : ℕ) (p : Point) (b : Block) → length (copy see spacing p (rectangle_of b)).dots ≤ most_pixels
unfolding copy copy_dots
copy_few see spacing p b =
    let n = suc (index (coord b.dy)) in
    let h : n ≤ 32768 = omega (arith, index_coord b.dy) in
    le_then (joined_length 0 n 32768 _ (λ j. le_of_eq_le (listed_length 0 (suc (index (coord b.dx))) _) (suc-le-suc (index_coord b.dx))))
    (omega (arith, mul-le-mul_right 32768 h))

-- ## CHAR

width_few : (w : ℕ) → width_of w ≤ 16
width_few w = omega arith

glyph_dots_few : (pen : Pen) (transparent : Bool) (rotation : ℕ) (store : List ℕ) (a : ℕ) (p : Place)
    → length (glyph_dots pen transparent rotation store a p) ≤ 256
unfolding glyph_dots
glyph_dots_few pen transparent rotation store a p =
    let w = word_at store a in
    let h : height_of w ≤ 16 = omega arith in
    le_then (joined_length 0 (height_of w) 16 _ (λ j. le_of_eq_le (listed_length 0 (width_of w) _) (width_few w))) (mul-le-mul_right 16 h)

string_length : (pen : Pen) (transparent : Bool) (t : Text) (store : List ℕ) (p : Point) (l : List ℕ)
    → length (string pen transparent t store p l).dots ≤ length l * 256
unfolding string
string_length pen transparent t store p [] = omega arith
string_length pen transparent t store p (a ∷ l) =
    let q = passed t (word_at store a) p in
    omega (
      arith,
      length-append (glyph_dots pen transparent t.rotation store a (place p)) (string pen transparent t store q l).dots,
      glyph_dots_few pen transparent t.rotation store a (place p),
      string_length pen transparent t store q l,
    )

pub string_few : (pen : Pen) (transparent : Bool) (t : Text) (store : List ℕ) (p : Point) (n : ℕ) (f : ℕ → ℕ) → n ≤ 65535
    → length (string pen transparent t store p (listed 0 n f)).dots ≤ most_pixels
string_few pen transparent t store p n f h =
    omega (arith, string_length pen transparent t store p (listed 0 n f), listed_length 0 n f)
