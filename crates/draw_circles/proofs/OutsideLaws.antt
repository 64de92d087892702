-- A circle whose columns or whose rows all lie outside the limits: nothing of it is drawn.
use mathlib.Core.Path.{◌≡◌, refl, sym, ap, ◌∙◌}
use mathlib.Core.Logic.{◌≢◌}
use mathlib.Core.Bool.{Bool, true, false}
use mathlib.Core.List.{List, [], ◌∷◌, Memᴰ}
use Prim.Native.Nat.{ℕ, ◌≤◌}
use native.Mathlib.Omega.{arith}
use borrow.Author.Tests.{ne_eqb}
use lib.IntN.{ℤ, pos, negsuc, nat_abs, ◌+ℤ◌}
use Rattle.model.specs.Coordinates.{Place, place, coord, between, negative}
use Rattle.model.specs.Lines.{major, minor}
use Rattle.model.specs.Circles.{on_circle, circle_points, circle_point, circle_dot, circle}
use Rattle.model.specs.declared.Point.{Point}
use Rattle.model.proofs.CirclePointLaws.{circle_points_lem, on_bounded}
use Rattle.model.proofs.Decisions.{cond_false}
use Rattle.coordinates.specs.Offsets.{directed, index_in}
use Rattle.canvas.specs.declared.Target.{Target}
use Rattle.canvas.specs.Canvas.{Canvas, painted, painted_all, Painted}
use Rattle.canvas.proofs.TargetLaws.{painted_outside_x, painted_outside_y}
use Rattle.draw_circles.specs.Sides.{side_in}
use Rattle.draw_circles.specs.Sheets.{dots_at}

-- ## Points none of which is drawn

none_painted : (t : Target) (centre : Point) (l : List Place)
    → ((q : Place) → Memᴰ q l → (c : Canvas) → painted t (circle_dot t.pen (place centre) q) c ≡ c) → (c : Canvas) → Painted t (dots_at t centre l) c c
unfolding painted_all
none_painted t centre [] h c = refl
none_painted t centre (q ∷ l) h c =
    none_painted t centre l (λ p m. h p (Memᴰ.tail m)) c ∙ ap (painted_all t (dots_at t centre l)) (sym (h q (Memᴰ.head refl) c))

-- no point of the circle is further than r from the centre, along x or along y
points_near : (r : ℕ) → r ≢ 0 → (q : Place) → Memᴰ q (circle_points r) → major q.x q.y ≤ r
unfolding circle_point
points_near r n q m =
    let e : on_circle r (minor q.x q.y) (major q.x q.y) ≡ true = rw (ne_eqb r 0 n) at ((circle_points_lem r).only q.x q.y m) in
    on_bounded r (minor q.x q.y) (major q.x q.y) e

directed_self : (z : ℤ) → z ≡ directed (negative z) (nat_abs z)
directed_self (pos n) = refl
directed_self (negsuc n) = refl

-- where no side up to r lies in the limits, no number at a distance up to r does
side_outside : (lo hi p r : ℕ) → ((back : Bool) (k : ℕ) → k ≤ r → side_in lo hi p back k ≡ false) → (z : ℤ) → nat_abs z ≤ r
    → between lo hi (coord p +ℤ z) ≡ false
side_outside lo hi p r h z l = ap (λ (w : ℤ). between lo hi (coord p +ℤ w)) (directed_self z) ∙ h (negative z) (nat_abs z) l

module _ (t : Target) (centre : Point) (r : ℕ) (n : r ≢ 0) where
  pub columns_outside : ((back : Bool) (k : ℕ) → k ≤ r → side_in t.clip.xmin t.clip.xmax centre.x back k ≡ false)
      → (c : Canvas) → Painted t (circle t.pen centre r).dots c c
  unfolding circle index_in
  columns_outside h = none_painted t centre (circle_points r) (λ q m c.
      let b = points_near r n q m in
      let l : nat_abs q.x ≤ r = omega arith in
      painted_outside_x t _ c (cond_false _ _ (side_outside t.clip.xmin t.clip.xmax centre.x r h q.x l)))

  pub rows_outside : ((back : Bool) (k : ℕ) → k ≤ r → side_in t.clip.ymin t.clip.ymax centre.y back k ≡ false)
      → (c : Canvas) → Painted t (circle t.pen centre r).dots c c
  unfolding circle index_in
  rows_outside h = none_painted t centre (circle_points r) (λ q m c.
      let b = points_near r n q m in
      let l : nat_abs q.y ≤ r = omega arith in
      painted_outside_y t _ c (cond_false _ _ (side_outside t.clip.ymin t.clip.ymax centre.y r h q.y l)))
