-- CIRCLE (02, A.1) as dots, and what is shown of its points.
use Rattle.std.specs.Prelude.{ℕ, suc, ◌+◌, ◌-◌, ◌*◌, min, max, ◌≡◌, Bool, true, cond, ◌&&◌, ltb, leb, eqb, ℤ, pos, neg_ℤ, nat_abs}
use mathlib.Core.List.{List, [], ◌∷◌, ◌++◌, map, Memᴰ, Nodup}
use Rattle.model.specs.Ranges.{joined}
use Rattle.model.specs.Coordinates.{Place, Point, at, offset, place}
use Rattle.model.specs.Pixels.{Pen}
use Rattle.model.specs.declared.Source.TheVariants as source
use Rattle.model.specs.Dots.{Dot, dot, Drawing, drawing}
use Rattle.model.specs.Lines.{once}

-- ## The points, from the centre

-- "j × (j−1) < r² − i² ≤ j × (j+1)", with i² on the other sides; j × (j−1) is 0 where j is
abbrev pub on_circle : ℕ → ℕ → ℕ → Bool
on_circle r i j = ltb (j * (j - 1) + i * i) (r * r) && leb (r * r) (j * (j + 1) + i * i)

-- (i,j) mirrored in the axes
abbrev pub mirrored : ℕ → ℕ → List Place
mirrored i j =
    at (pos i) (pos j) ∷ at (neg_ℤ (pos i)) (pos j) ∷ at (pos i) (neg_ℤ (pos j))
    ∷ at (neg_ℤ (pos i)) (neg_ℤ (pos j)) ∷ []

-- "all eight reflections of (i,j)"
unfoldable pub reflections : ℕ → ℕ → List Place
reflections i j = mirrored i j ++ mirrored j i

-- the reflections of (i,j) where "0 ≤ i ≤ j" and the condition holds
unfoldable pub reflections_on : ℕ → ℕ → ℕ → List Place
reflections_on r i j = cond (leb i j && on_circle r i j) (reflections i j) []

-- "For radius r the points are all eight reflections of (i,j) ..; r = 0 is the centre alone. Each point is
-- drawn once". No i or j above r passes
unfoldable pub circle_points : ℕ → List Place
circle_points r =
    cond (eqb r 0) (at (pos 0) (pos 0) ∷ [])
    (once [] (joined 0 (suc r) (λ i. joined 0 (suc r) (λ j. reflections_on r i j))))

-- ## The drawing

-- a point from the centre, "in the foreground, without pattern"
abbrev pub circle_dot : Pen → Place → Place → Dot
circle_dot pen centre q = dot (offset centre q.x q.y) (source.Colour pen.fore)

-- "centred on the position, with the position unchanged"
unfoldable pub circle : Pen → Point → ℕ → Drawing
circle pen p r = drawing (map (circle_dot pen (place p)) (circle_points r)) p

-- ## "That these are all such points and no others is to be shown"

-- (x,y) from the centre is such a point: a reflection of (i,j), i being the smaller and j the larger of |x|
-- and |y|, with the condition; for "r = 0 .. the centre alone"
unfoldable pub circle_point : ℕ → ℤ → ℤ → Bool
circle_point r x y =
    cond (eqb r 0) (eqb (nat_abs x) 0 && eqb (nat_abs y) 0)
    (on_circle r (min (nat_abs x) (nat_abs y)) (max (nat_abs x) (nat_abs y)))

-- what `model::circles_hold` promises for every radius
pub record CirclePoints (r : ℕ) : Type 0 where
  -- "these are all such points"
  pub all : (x y : ℤ) → circle_point r x y ≡ true → Memᴰ (at x y) (circle_points r)
  -- "and no others"
  pub only : (x y : ℤ) → Memᴰ (at x y) (circle_points r) → circle_point r x y ≡ true
  -- "Each point is drawn once": different places from one centre are different pixels
  pub single : Nodup (circle_points r)
