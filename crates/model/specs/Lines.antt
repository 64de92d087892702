-- Lines (01, "Pixels"; POLYLINE by 02, A.4): LINE, POINT, POLYLINE, RECT, SCAN_LINES as dots.
use Rattle.std.specs.Prelude.{ℕ, suc, ◌+◌, ◌-◌, ◌*◌, ◌/◌, min, max, Bool, true, false, cond, ◌||◌, List, [], ◌∷◌, ◌++◌, leb, ℤ, pos, neg_ℤ, nat_abs}
use Rattle.model.specs.Ranges.{listed}
use Rattle.model.specs.Words.{word_at}
use Rattle.model.specs.Coordinates.{Place, Point, coord, sign_as, offset, place, moved, same_place}
use Rattle.model.specs.Pixels.{Pen, pattern_source}
use Rattle.model.specs.Dots.{Dot, dot, Drawing, drawing, prepended, keep}

-- ## LINE (dx,dy)

-- "n = max(|dx|,|dy|)"
abbrev pub major : ℤ → ℤ → ℕ
major dx dy = max (nat_abs dx) (nat_abs dy)

-- "m the smaller"
abbrev pub minor : ℤ → ℤ → ℕ
minor dx dy = min (nat_abs dx) (nat_abs dy)

-- "x the major axis if equal"
abbrev pub flat : ℤ → ℤ → Bool
flat dx dy = leb (nat_abs dy) (nat_abs dx)

-- "the minor floor((2 × i × m + n) / (2 × n))"; x / 0 is 0 here, and "n = 0 is one pixel"
abbrev pub minor_at : ℕ → ℕ → ℕ → ℕ
minor_at n m i = (2 * i * m + n) / (2 * n)

-- "the major offset is i and the minor .., each with its sign"
abbrev pub offset_x : ℤ → ℤ → ℕ → ℤ
offset_x dx dy i = sign_as dx (cond (flat dx dy) i (minor_at (major dx dy) (minor dx dy) i))

abbrev pub offset_y : ℤ → ℤ → ℕ → ℤ
offset_y dx dy i = sign_as dy (cond (flat dx dy) (minor_at (major dx dy) (minor dx dy) i) i)

-- how many pixels a line has from pixel `first` on: its last is pixel n
abbrev pub pixels_from : ℕ → ℤ → ℤ → ℕ
pixels_from first dx dy = suc (major dx dy) - first

-- a segment: a line's pixels from pixel `first` on, which takes pattern index `index`, and each after it the next
unfoldable pub segment_dots : Pen → Place → ℤ → ℤ → ℕ → ℕ → List Dot
segment_dots pen p dx dy first index =
    listed 0 (pixels_from first dx dy)
    (λ k. dot (offset p (offset_x dx dy (k + first)) (offset_y dx dy (k + first))) (pattern_source pen (k + index)))

-- "For i = 0 to n", "Pixel i of a line, from 0, uses pattern bit 15 − (i mod 16)": the dots of a line are the
-- segment from pixel 0 on, with index 0
abbrev pub line_dots : Pen → Place → ℤ → ℤ → List Dot
line_dots pen p dx dy = segment_dots pen p dx dy 0 0

-- "The position ends at the far end"
unfoldable pub line : Pen → Point → ℤ → ℤ → Drawing
line pen p dx dy = drawing (line_dots pen (place p) dx dy) (moved p dx dy)

-- ## POINT

-- POINT at the position it has moved to: it "draws one pixel, pattern index 0"
unfoldable pub point_at : Pen → Point → Drawing
point_at pen p = drawing (dot (place p) (pattern_source pen 0) ∷ []) p

-- ## POLYLINE

pub record Pair : Type 0 where
  pub dx : ℤ
  pub dy : ℤ

-- the n pairs of the array at an address
unfoldable pub pairs_at : List ℕ → ℕ → ℕ → List Pair
pairs_at store a n =
    listed 0 n (λ k. record { dx = coord (word_at store (a + 4 * k)); dy = coord (word_at store (a + 4 * k + 2)) })

-- segments one after another, the first of them from pixel `first` on with index `index`: "The first pixel of each
-- segment after the first is skipped and takes no pattern index" (02, A.4)
unfoldable pub segments : Pen → Point → ℕ → ℕ → List Pair → Drawing
segments pen p first index [] = drawing [] p
segments pen p first index (m ∷ ms) =
    prepended (segment_dots pen (place p) m.dx m.dy first index)
    (segments pen (moved p m.dx m.dy) 1 (index + pixels_from first m.dx m.dy) ms)

-- "A dashed polyline now carries its pattern on through every joint, and a joint is no longer drawn by both its
-- segments" (02, A.4, in place of 01's sentence): the N pairs as segments, the first of them a whole line
unfoldable pub polyline : Pen → Point → List Pair → Drawing
polyline pen p ms = segments pen p 0 0 ms

-- ## RECT

-- |d| + 1 places from p on, along x or along y
unfoldable pub along_x : Place → ℤ → List Place
along_x p d = listed 0 (suc (nat_abs d)) (λ i. offset p (sign_as d i) (pos 0))

unfoldable pub along_y : Place → ℤ → List Place
along_y p d = listed 0 (suc (nat_abs d)) (λ i. offset p (pos 0) (sign_as d i))

-- "along x first, then y, then back along x, then along y"
unfoldable pub walk : Place → ℤ → ℤ → List Place
walk p dx dy =
    along_x p dx
    ++ (along_y (offset p dx (pos 0)) dy
    ++ (along_x (offset p dx dy) (neg_ℤ dx) ++ along_y (offset p (pos 0) dy) (neg_ℤ dy)))

unfoldable pub visited : Place → List Place → Bool
visited p [] = false
visited p (q ∷ qs) = same_place p q || visited p qs

-- "each pixel once, ..; a pixel already drawn is passed over": the places not among those seen, each the
-- first time
unfoldable pub once : List Place → List Place → List Place
once seen [] = []
once seen (p ∷ ps) = keep (cond (visited p seen) false true) p (once (p ∷ seen) ps)

-- places drawn with the pattern from index i on: a place passed over "takes no pattern index"
unfoldable pub patterned : Pen → ℕ → List Place → List Dot
patterned pen i [] = []
patterned pen i (p ∷ ps) = dot p (pattern_source pen i) ∷ patterned pen (suc i) ps

-- "RECT draws the outline with corners (x,y) and (x+dx,y+dy) ..; the position stays"
unfoldable pub rectangle : Pen → Point → ℤ → ℤ → Drawing
rectangle pen p dx dy = drawing (patterned pen 0 (once [] (walk (place p) dx dy))) p

-- ## SCAN_LINES

pub record Triple : Type 0 where
  pub dx : ℤ
  pub dy : ℤ
  pub len : ℤ

-- the n triples of the array at an address
unfoldable pub triples_at : List ℕ → ℕ → ℕ → List Triple
triples_at store a n =
    listed 0 n (λ k. record {
      dx = coord (word_at store (a + 6 * k));
      dy = coord (word_at store (a + 6 * k + 2));
      len = coord (word_at store (a + 6 * k + 4));
    })

-- "each triple dx, dy, length moves by (dx,dy) and draws a horizontal LINE by length; the position stays at
-- that line's start"
unfoldable pub scan_lines : Pen → Point → List Triple → Drawing
scan_lines pen p [] = drawing [] p
scan_lines pen p (s ∷ ss) =
    prepended (line_dots pen (place (moved p s.dx s.dy)) s.len (pos 0))
    (scan_lines pen (moved p s.dx s.dy) ss)
