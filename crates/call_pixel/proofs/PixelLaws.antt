-- What pixel relies on once its own check does not refuse it.
use mathlib.Core.Path.{◌≡◌, refl, sym}
use mathlib.Core.Bool.{Bool, true, false, cond}
use mathlib.Core.List.{List}
use Prim.Native.Nat.{ℕ, suc, ◌<◌}
use native.Mathlib.Omega.{arith}
use lib.Dec.{ltb}
use lib.ListN.{length}
use borrow.Author.Tests.{ltb-true}
use Rattle.model.specs.declared.Console.{Console}
use Rattle.model.specs.declared.Row.{Row}
use Rattle.model.specs.declared.Pane.{Pane}
use Rattle.model.specs.Record.{no_pane}
use Rattle.model.specs.Bitmaps.{pane_surface}
use Rattle.model.specs.Calls.{pixel, own_refusal}
use Rattle.model.proofs.Decisions.{both_true}
use Rattle.bitmaps.specs.Places.{Placed}
use Rattle.bitmaps.proofs.BitmapLaws.{pane_fits}
use Rattle.raster.specs.Place.{Drawable}
use Rattle.call_common.specs.declared.Admission.{Admission}
use Rattle.call_common.specs.Admissions.{Granted}

cond_zero : (t : Bool) (n : ℕ) → cond t 0 (suc n) ≡ 0 → t ≡ true
cond_zero true n h = refl
cond_zero false n h = absurd (omega arith)

-- the pixel is one of the pane's
pixel_inside : (r : Row) (x y : ℕ) → ((p : Pane) → 0 ≡ own_refusal r p (pixel x y)) → (x < r.width) × (y < r.height)
unfolding own_refusal
pixel_inside r x y e =
    let b = both_true (ltb x r.width) (ltb y r.height) (cond_zero _ 4 (sym (e no_pane))) in
    (ltb-true x r.width b.0, ltb-true y r.height b.1)

-- so that it can be read
pub pixel_drawable : {c : Console} (screen : List ℕ) {stores number : ℕ} {a : Admission} → Granted c (length screen) stores number a
    → (x y : ℕ) → ((p : Pane) → 0 ≡ own_refusal a.row p (pixel x y))
    → Drawable (pane_surface c.geometry a.row) screen x y
unfolding pane_surface
pixel_drawable {c = c} screen {a = a} g x y e =
    let p : Placed c.geometry a.row (length screen) a.row.len = rw g.row g.admitted.placed in
    let i = pixel_inside a.row x y e in
    record { fits = pane_fits c.geometry a.row screen _ p; small = omega (arith, p.right, p.width); column = i.0; row = i.1 }
