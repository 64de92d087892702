-- A point from the centre mirrored: which of its places are drawn, and that they are the reflections of model's definition, each once.
use mathlib.Core.Path.{◌≡◌, refl, sym, ap, ◌∙◌}
use mathlib.Core.Logic.{◌≢◌}
use mathlib.Core.Bool.{Bool, true, false, cond, ◌&&◌}
use mathlib.Core.List.{List, [], ◌∷◌, ◌++◌}
use Prim.Native.Nat.{ℕ, zero, suc}
use native.Mathlib.Omega.{arith}
use borrow.Author.Tests.{eq-eqb, ne_eqb, lt-ltb}
use lib.Dec.{eqb, ltb}
use lib.IntN.{◌+ℤ◌}
use Rattle.model.specs.Coordinates.{Place, at, place, coord, between}
use Rattle.model.specs.Dots.{Dot, dot, visible}
use Rattle.model.specs.Lines.{visited, once}
use Rattle.model.specs.Circles.{mirrored, reflections, circle_dot}
use Rattle.model.specs.declared.Source.TheVariants as source
use Rattle.model.proofs.Decisions.{both_true, cond_false}
use Rattle.coordinates.specs.Offsets.{directed}
use Rattle.coordinates.proofs.EdgeLaws.{between_holds}
use Rattle.canvas.specs.declared.Offset.{Offset}
use Rattle.canvas.specs.declared.Target.{Target}
use Rattle.canvas.specs.Canvas.{Canvas, hit, painted, painted_all}
use Rattle.draw_circles.specs.declared.sheets.Sheet.{Sheet}
use Rattle.draw_circles.specs.declared.sides.Side.{Side}
use Rattle.draw_circles.specs.declared.sides.Sides.{Sides}
use Rattle.draw_circles.specs.Sides.{side_in, SideAt, SidesOf}
use Rattle.draw_circles.specs.Sheets.{SheetReady, InLimits, SheetOf, on_sheet, Dabbed, dots_at, dots_on, dot_if}
use Rattle.draw_circles.proofs.SheetLaws.{dabbed_same, dabbed_more, places_then, dot_visible}

-- ## One of the four places

-- a place at an offset to the left, and up, or not
abbrev reflected : Bool → Bool → ℕ → ℕ → Place
reflected left up x y = at (directed left x) (directed up y)

and_front : (a b c : Bool) → (a && (b && c)) ≡ (b && (a && c))
and_front true b c = refl
and_front false true c = refl
and_front false false c = refl

and_pairs : (a b c d : Bool) → ((a && b) && (c && d)) ≡ ((a && c) && (b && d))
and_pairs true b c d = and_front b c d
and_pairs false b c d = refl

-- in the column and the row of an offset, each of which may not be there
module _ (s : Sheet) (x y : ℕ) (left up across down : Bool) {column row : Side}
    (h : SideAt s.clip.xmin s.clip.xmax (coord s.centre.x +ℤ directed left x) across column)
    (v : SideAt s.clip.ymin s.clip.ymax (coord s.centre.y +ℤ directed up y) down row) where
  -- both lie in the limits
  abbrev inside : Bool
  inside = side_in s.clip.xmin s.clip.xmax s.centre.x left x && side_in s.clip.ymin s.clip.ymax s.centre.y up y

  both_on : (column.on && row.on) ≡ ((across && down) && inside)
  both_on = rw (h.on, v.on) (and_pairs across _ down _)

  pub place_limits : (column.on && row.on) ≡ true → InLimits s column.at row.at
  place_limits e =
      let b = (both_true (across && down) inside (sym both_on ∙ e)).1 in
      let c = both_true (side_in s.clip.xmin s.clip.xmax s.centre.x left x) (side_in s.clip.ymin s.clip.ymax s.centre.y up y) b in
      let p = between_holds s.clip.xmin s.clip.xmax column.at (ap (between s.clip.xmin s.clip.xmax) h.at ∙ c.0) in
      let q = between_holds s.clip.ymin s.clip.ymax row.at (ap (between s.clip.ymin s.clip.ymax) v.at ∙ c.1) in
      record { west = p.0; east = p.1; north = q.0; south = q.1 }

  -- a place outside the limits is not drawn, and is none of the visible dots
  place_painted : {m n : ℕ} → SheetReady s m n → (t : Target) {stamps : List ℕ} → SheetOf t s stamps → (c : Canvas)
      → painted_all t (dot_if (column.on && row.on) column.at row.at t) c
      ≡ painted_all t (dots_on s (cond (across && down) (reflected left up x y ∷ []) []) t) c
  unfolding painted painted_all
  place_painted r t g c =
      (λ i. painted_all t (cond (both_on i) (dot (at (h.at i) (v.at i)) (source.Colour t.pen.fore) ∷ []) []) c)
      ∙ go (across && down) inside (dot_visible r t g d.place t.pen.fore)
    where
      d : Dot
      d = circle_dot t.pen (place s.centre) (reflected left up x y)

      go : (a b : Bool) → visible t.area.surface t.clip d ≡ b
          → painted_all t (cond (a && b) (d ∷ []) []) c ≡ painted_all t (dots_on s (cond a (reflected left up x y ∷ []) []) t) c
      go false b e = refl
      go true true e = refl
      go true false e = sym (cond_false (hit t d c) c e)

  place_dabbed : {m n : ℕ} → SheetReady s m n → {stamps old new : List ℕ} {before after : ℕ}
      → Dabbed s stamps (dot_if (column.on && row.on) column.at row.at) 1 old new before after
      → Dabbed s stamps (dots_on s (cond (across && down) (reflected left up x y ∷ []) [])) 1 old new before after
  place_dabbed r {old = old} {before = before} q = record {
    drawn = λ t other g. q.drawn t other g ∙ place_painted r t g (on_sheet t other old before);
    length = q.length;
    few = q.few;
  }

-- ## Each place once

eqb_self : (n : ℕ) → eqb n n ≡ true
eqb_self n = eq-eqb n n refl

above_zero : (n : ℕ) → ltb 0 (suc n) ≡ true
above_zero n = lt-ltb 0 (suc n) (omega arith)

-- the four places, each of them if it is not there yet
abbrev one : ℕ → ℕ → List Place
one x y = reflected false false x y ∷ []

abbrev two : ℕ → ℕ → List Place
two x y = cond (ltb 0 x && true) (reflected true false x y ∷ []) []

abbrev three : ℕ → ℕ → List Place
three x y = cond (ltb 0 y) (reflected false true x y ∷ []) []

abbrev four : ℕ → ℕ → List Place
four x y = cond (ltb 0 x && ltb 0 y) (reflected true true x y ∷ []) []

mirrored_once : (x y : ℕ) → ((one x y ++ two x y) ++ three x y) ++ four x y ≡ once [] (mirrored x y)
unfolding once visited
mirrored_once zero zero = refl
mirrored_once zero (suc b) = simp (eqb_self b, eqb_self (suc b), above_zero b)
mirrored_once (suc a) zero = simp (eqb_self a, eqb_self (suc a), above_zero a)
mirrored_once (suc a) (suc b) = simp (eqb_self a, eqb_self (suc a), above_zero a, above_zero b)

module _ (s : Sheet) (stamps : List ℕ) (x y : ℕ) {columns rows : Sides} (h : SidesOf s.clip.xmin s.clip.xmax s.centre.x x columns)
    (v : SidesOf s.clip.ymin s.clip.ymax s.centre.y y rows) {m n : ℕ} (r : SheetReady s m n) where
  abbrev Dotted : Side → Side → List ℕ → List ℕ → ℕ → ℕ → Type 0
  Dotted column row = Dabbed s stamps (dot_if (column.on && row.on) column.at row.at) 1

  -- the four dots, one after the other
  pub mirrored_dabbed : {b₁ b₂ b₃ b₄ b₅ : List ℕ} {n₁ n₂ n₃ n₄ n₅ : ℕ} → Dotted columns.after rows.after b₁ b₂ n₁ n₂
      → Dotted columns.before rows.after b₂ b₃ n₂ n₃ → Dotted columns.after rows.before b₃ b₄ n₃ n₄
      → Dotted columns.before rows.before b₄ b₅ n₄ n₅ → Dabbed s stamps (dots_on s (once [] (mirrored x y))) 4 b₁ b₅ n₁ n₅
  mirrored_dabbed d₁ d₂ d₃ d₄ =
      let q₁ = place_dabbed s x y false false true true h.after v.after r d₁ in
      let q₂ = place_dabbed s x y true false (ltb 0 x) true h.before v.after r d₂ in
      let q₃ = place_dabbed s x y false true true (ltb 0 y) h.after v.before r d₃ in
      let q₄ = place_dabbed s x y true true (ltb 0 x) (ltb 0 y) h.before v.before r d₄ in
      dabbed_same
      (places_then ((one x y ++ two x y) ++ three x y) (four x y)
      (places_then (one x y ++ two x y) (three x y) (places_then (one x y) (two x y) q₁ q₂) q₃) q₄)
      (dots_on s (once [] (mirrored x y))) (λ t. ap (dots_at t s.centre) (mirrored_once x y))

-- ## All eight

-- (x,y) and (y,x) mirrored are all reflections: on a diagonal, and beside it
reflections_diagonal : (x : ℕ) → once [] (mirrored x x) ≡ once [] (reflections x x)
unfolding reflections once visited
reflections_diagonal zero = refl
reflections_diagonal (suc a) = simp (eqb_self a, eqb_self (suc a))

reflections_beside : (x y : ℕ) → x ≢ y → once [] (mirrored x y) ++ once [] (mirrored y x) ≡ once [] (reflections x y)
unfolding reflections once visited
reflections_beside zero zero n = absurd (n refl)
reflections_beside zero (suc b) n = simp (eqb_self b, eqb_self (suc b), ne_eqb 0 (suc b) (omega arith), ne_eqb (suc b) 0 (omega arith))
reflections_beside (suc a) zero n = simp (eqb_self a, eqb_self (suc a), ne_eqb 0 (suc a) (omega arith), ne_eqb (suc a) 0 (omega arith))
reflections_beside (suc a) (suc b) n =
    simp (
      eqb_self a,
      eqb_self (suc a),
      eqb_self b,
      eqb_self (suc b),
      ne_eqb a b (omega arith),
      ne_eqb b a (omega arith),
      ne_eqb (suc a) (suc b) n,
      ne_eqb (suc b) (suc a) (omega arith),
    )

-- (x,y) mirrored, then (y,x) where it is beside a diagonal
module _ {s : Sheet} {stamps : List ℕ} {o : Offset} {old mid : List ℕ} {hits n : ℕ}
    (d : Dabbed s stamps (dots_on s (once [] (mirrored o.x o.y))) 4 old mid hits n) where
  pub diagonal_dabbed : o.x ≡ o.y → Dabbed s stamps (dots_on s (once [] (reflections o.x o.y))) 8 old mid hits n
  diagonal_dabbed e =
      let f : once [] (mirrored o.x o.y) ≡ once [] (reflections o.x o.y) = rw e (reflections_diagonal o.y) in
      dabbed_more (dabbed_same d (dots_on s (once [] (reflections o.x o.y))) (λ t. ap (dots_at t s.centre) f)) (omega arith)

  pub beside_dabbed : {new : List ℕ} {k : ℕ} → o.x ≢ o.y → Dabbed s stamps (dots_on s (once [] (mirrored o.y o.x))) 4 mid new n k
      → Dabbed s stamps (dots_on s (once [] (reflections o.x o.y))) 8 old new hits k
  beside_dabbed h q =
      dabbed_same (places_then (once [] (mirrored o.x o.y)) (once [] (mirrored o.y o.x)) d q) (dots_on s (once [] (reflections o.x o.y)))
      (λ t. ap (dots_at t s.centre) (reflections_beside o.x o.y h))
