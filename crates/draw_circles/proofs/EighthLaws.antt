-- The walk along an eighth of the circle: at each of its points (i,j) with i ≤ j, j is the one that passes for i; past the eighth none does.
use mathlib.Core.Path.{◌≡◌, sym, ap, ◌∙◌}
use mathlib.Core.Logic.{◌≢◌}
use mathlib.Core.List.{List, [], map}
use Prim.Native.Nat.{ℕ, zero, suc, ◌+◌, ◌-◌, ◌*◌, ◌≤◌, ◌<◌}
use native.Mathlib.Nat.{mul-le-mul}
use native.Mathlib.Omega.{arith}
use Rattle.model.specs.Ranges.{joined}
use Rattle.model.specs.Coordinates.{Place, place}
use Rattle.model.specs.declared.Pen.{Pen}
use Rattle.model.specs.declared.Point.{Point}
use Rattle.model.specs.Dots.{Dot}
use Rattle.model.specs.Lines.{once}
use Rattle.model.specs.Circles.{reflections, circle_dot}
use Rattle.model.proofs.CircleLaws.{On, column_on_lem, column_none, column_dots, joined_rest, circle_dots}
use Rattle.canvas.specs.declared.Target.{Target}
use Rattle.canvas.proofs.LoopLaws.{Painting, painting_list}
use Rattle.draw_circles.specs.declared.EighthPoint.{EighthPoint}
use Rattle.draw_circles.specs.declared.sheets.Sheet.{Sheet}
use Rattle.draw_circles.specs.Eighths.{Along, Further}
use Rattle.draw_circles.specs.Sheets.{on_sheet, Dabbed, dots_at, dots_on, circle_on}
use Rattle.draw_circles.proofs.SheetLaws.{dabbed_none, dabbed_same, dabbed_more}

-- ## Products

-- j × (j+1) is 2j above j × (j−1)
product_fall : (j : ℕ) → 0 < j → j * (j + 1) ≡ j * (j - 1) + j + j
product_fall zero h = absurd (omega arith)
product_fall (suc j) h = let e : suc j - 1 ≡ j = omega arith in rw e (omega arith)

product_before : (j : ℕ) → 0 < j → (j - 1) * (j - 1 + 1) ≡ j * (j - 1)
product_before zero h = absurd (omega arith)
product_before (suc j) h = let e : suc j - 1 ≡ j = omega arith in rw e (omega arith)

-- ## Points of the walk

abbrev pub eighth_point : ℕ → ℕ → ℕ → EighthPoint
eighth_point i j excess = record { i = i; j = j; excess = excess }

along_first : (r : ℕ) → r ≢ 0 → Along r (eighth_point 0 r r)
along_first r n = record { excess = omega arith; near = λ l. omega arith; inside = omega arith }

-- a column further: j stays, or falls by one. It never has to fall further on the eighth: where it is at least i + 2, one is enough
module _ (r : ℕ) (p : EighthPoint) (a : Along r p) where
  pub along_stays : p.excess + p.i + (p.i + 1) < p.j + p.j → Along r (eighth_point (p.i + 1) p.j (p.excess + p.i + (p.i + 1)))
  along_stays h = record { excess = omega (arith, a.excess); near = λ l. h; inside = a.inside }

  pub along_falls : p.i ≤ p.j → p.j + p.j ≤ p.excess + p.i + (p.i + 1)
      → Along r (eighth_point (p.i + 1) (p.j - 1) (p.excess + p.i + (p.i + 1) - p.j - p.j))
  along_falls l h =
      let n = a.near l in
      record {
        excess = omega (arith, a.excess, product_fall p.j (omega arith), product_before p.j (omega arith));
        near = λ b. omega arith;
        inside = omega (arith, a.inside);
      }

-- on the eighth, j is the one that passes for i
along_on : (r : ℕ) (p : EighthPoint) → Along r p → p.i ≤ p.j → On r p.i p.j
along_on r p a l =
    let n = a.near l in
    record { lower = omega (arith, a.excess, product_fall p.j (omega arith)); upper = omega (arith, a.excess) }

-- ## The columns drawn

-- the dots of the first columns
abbrev pub columns_on : Sheet → ℕ → ℕ → Target → List Dot
columns_on s r k t = joined 0 k (column_dots t.pen s.centre r)

-- the loop's invariant: the columns before i are drawn
pub record Walking (s : Sheet) (stamps : List ℕ) (r : ℕ) (old new : List ℕ) (hits : ℕ) (p : EighthPoint) : Type 0 where
  pub along : Along r p
  pub dabbed : Dabbed s stamps (columns_on s r p.i) (8 * p.i) old new 0 hits
  pub turn : p.i ≤ suc r

pub walking_first : (s : Sheet) (stamps : List ℕ) (r : ℕ) (old : List ℕ) → r ≢ 0 → Walking s stamps r old old 0 (eighth_point 0 r r)
unfolding joined
walking_first s stamps r old n = record { along = along_first r n; dabbed = dabbed_none old 0; turn = omega arith }

-- the reflections of a point on the eighth are a column
reflections_column : (s : Sheet) (r : ℕ) (p : EighthPoint) → Along r p → p.i ≤ p.j → (t : Target)
    → dots_on s (once [] (reflections p.i p.j)) t ≡ column_dots t.pen s.centre r p.i
unfolding column_dots
reflections_column s r p a l t = ap (dots_at t s.centre) (sym (column_on_lem r p.i p.j l (along_on r p a l)))

-- past the eighth a column is empty
columns_past : (pen : Pen) (from : Point) (r : ℕ) (p : EighthPoint) → Along r p → p.j < p.i → (k : ℕ) → p.i ≤ k → column_dots pen from r k ≡ []
unfolding column_dots
columns_past pen from r p a l k h =
    ap (λ (q : List Place). map (circle_dot pen (place from)) q)
    (column_none r k p.j (omega arith) (omega (arith, a.excess, let m : p.i * p.i ≤ k * k = mul-le-mul h h in m)))

module _ {s : Sheet} {stamps : List ℕ} {r : ℕ} {old new : List ℕ} {hits : ℕ} (p : EighthPoint) (w : Walking s stamps r old new hits p) where
  pub walking_next : {new' : List ℕ} {hits' : ℕ} {q : EighthPoint} → p.i ≤ p.j
      → Dabbed s stamps (dots_on s (once [] (reflections p.i p.j))) 8 new new' hits hits' → Further p q
      → Walking s stamps r old new' hits' q
  walking_next {new'} {hits'} l d f =
      let e = dabbed_same d (λ t. column_dots t.pen s.centre r p.i) (reflections_column s r p w.along l) in
      let b : p.i < suc r = omega (arith, w.along.inside) in
      let m : Dabbed s stamps (columns_on s r (p.i + 1)) (8 * (p.i + 1)) old new' 0 hits' = record {
        drawn = λ t other h.
            let g : Painting t (λ k. columns_on s r k t) (on_sheet t other old 0) (on_sheet t other new hits) p.i (suc r)
            = record { drawn = w.dabbed.drawn t other h; turn = w.turn } in
            (painting_list (column_dots t.pen s.centre r) (on_sheet t other old 0) g b (e.drawn t other h)).drawn;
        length = d.length ∙ w.dabbed.length;
        few = omega (arith, d.few, w.dabbed.few);
      } in
      record { along = f.along r w.along; dabbed = rw f.column m; turn = omega (arith, f.column) }

  -- past the eighth the whole circle is drawn
  pub walking_done : r ≢ 0 → p.j < p.i → Dabbed s stamps (circle_on s r) (8 * suc r) old new 0 hits
  walking_done n l =
      dabbed_more
      (dabbed_same w.dabbed (circle_on s r)
      (λ t. sym (circle_dots t.pen s.centre r n
      ∙ joined_rest p.i 0 (suc r) (column_dots t.pen s.centre r) w.turn
      (λ k h. columns_past t.pen s.centre r p w.along l k (omega arith)))))
      (omega (arith, w.turn))
