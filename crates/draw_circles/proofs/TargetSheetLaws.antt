-- The sheet of a target, and what a circle drawn on it leaves of both buffers.
use mathlib.Core.Path.{◌≡◌, refl, sym, ap, ◌∙◌}
use mathlib.Core.Bool.{Bool, true, false, cond}
use mathlib.Core.Logic.{◌≢◌}
use mathlib.Core.List.{List}
use Prim.Native.Nat.{ℕ, ◌≤◌}
use Rattle.model.specs.declared.Point.{Point}
use Rattle.model.specs.Circles.{circle}
use Rattle.model.proofs.Decisions.{cond_true, cond_false}
use Rattle.canvas.specs.declared.Target.{Target}
use Rattle.canvas.specs.Canvas.{canvas, painted_all, Painted}
use Rattle.canvas.specs.Targets.{Ready}
use Rattle.draw_circles.specs.declared.sheets.Sheet.{Sheet}
use Rattle.draw_circles.specs.declared.sides.Overlap.{Overlap}
use Rattle.draw_circles.specs.declared.sides.Overlap.TheVariants.{Inside}
use Rattle.draw_circles.specs.Sides.{OverlapOf}
use Rattle.draw_circles.specs.Sheets.{SheetReady, Round, SheetOf, Dabbed, circle_on}
use Rattle.draw_circles.specs.Tables.{StampsFor}

module _ (t : Target) (centre : Point) where
  abbrev pub target_sheet : Bool → Sheet
  target_sheet inside = record { surface = t.area.surface; clip = t.clip; centre = centre; inside = inside }

  pub sheet_ready : {m n : ℕ} (inside : Bool) {buffer stamps : ℕ} → Ready t m n → cond t.area.onscreen m n ≡ buffer → stamps ≡ 64
      → SheetReady (target_sheet inside) buffer stamps
  sheet_ready inside r e f = record {
    depth = r.depth;
    right = r.right;
    small = r.small;
    long = rw e at r.long;
    east = r.east;
    south = r.south;
    table = f;
  }

  pub sheet_round : (r : ℕ) {columns rows : Overlap} (inside : Bool) → r ≢ 0 → r ≤ 32768
      → OverlapOf t.clip.xmin t.clip.xmax centre.x r columns → OverlapOf t.clip.ymin t.clip.ymax centre.y r rows
      → (inside ≡ true → (columns ≡ Inside) × (rows ≡ Inside)) → Round (target_sheet inside) r
  sheet_round r inside n l h v i = record {
    some = n;
    small = l;
    inside = λ e k m. let b = i e in record { columns = h.all b.0 k m; rows = v.all b.1 k m };
  }

  -- drawn on the screen, or in the store
  module _ (inside : Bool) (r : ℕ) {stamps : List ℕ} (s : StampsFor t stamps) {most : ℕ} {old new : List ℕ} {hits : ℕ}
      (d : Dabbed (target_sheet inside) stamps (circle_on (target_sheet inside) r) most old new 0 hits) where
    sheet_of : SheetOf t (target_sheet inside) stamps
    sheet_of = record { surface = refl; clip = refl; table = s }

    pub screen_painted : t.area.onscreen ≡ true → (store : List ℕ) → Painted t (circle t.pen centre r).dots (canvas old store 0) (canvas new store hits)
    screen_painted e store =
        sym (cond_true (canvas new store hits) (canvas store new hits) e) ∙ d.drawn t store sheet_of
        ∙ ap (painted_all t (circle t.pen centre r).dots) (cond_true (canvas old store 0) (canvas store old 0) e)

    pub store_painted : t.area.onscreen ≡ false → (screen : List ℕ)
        → Painted t (circle t.pen centre r).dots (canvas screen old 0) (canvas screen new hits)
    store_painted e screen =
        sym (cond_false (canvas new screen hits) (canvas screen new hits) e) ∙ d.drawn t screen sheet_of
        ∙ ap (painted_all t (circle t.pen centre r).dots) (cond_false (canvas old screen 0) (canvas screen old 0) e)
