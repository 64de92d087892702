-- What a bitmap that keeps the rule gives its area: sizes that products stay small with, and bits per pixel that fit a word.
use mathlib.Core.Path.{◌≡◌, refl}
use mathlib.Core.Bool.{false}
use Prim.Native.Nat.{ℕ, ◌≤◌}
use native.Mathlib.Omega.{arith}
use lib.Dec.{eqb}
use Rattle.model.specs.declared.Geometry.{Geometry}
use Rattle.model.specs.declared.Row.{Row}
use Rattle.model.specs.declared.Bitmap.{Bitmap}
use Rattle.model.specs.declared.Bitmap.TheVariants as bitmap
use Rattle.model.specs.Bitmaps.{bitmap_of, pane_address, surface_of, pane_surface, store_surface, rule_broken}
use Rattle.model.specs.Faults.{no_bitmap}
use Rattle.model.proofs.Decisions.{cond_ind}
use Rattle.bitmaps.specs.Places.{Placed}
use Rattle.bitmaps.specs.Areas.{Active}
use Rattle.bitmaps.proofs.DepthLaws.{is_depth_known}
use Rattle.bitmaps.proofs.BitmapLaws.{rule_broken_store}

-- a screen has at most 4096 columns and at most 8 bits per pixel
pub placed_sizes : {g : Geometry} {r : Row} {m n : ℕ} → Placed g r m n → (g.width ≤ 4096) × (g.depth ≤ 8)
placed_sizes p = (p.width, (is_depth_known _ p.depth).most)

-- a bitmap has at most 8 bits per pixel
bits_most : (g : Geometry) (r : Row) (b : Bitmap) → g.depth ≤ 8 → rule_broken g r b ≡ false → (surface_of g r b).bits ≤ 8
unfolding surface_of pane_surface store_surface
bits_most g r bitmap.Absent d h = omega arith
bits_most g r (bitmap.Pane xmax ymax b) d h = d
bits_most g r (bitmap.Store a xmax ymax b) d h = (rule_broken_store g r xmax ymax b a h).known.most

pub active_bits : (g : Geometry) (r : Row) (b : Bitmap) → Active g r b → (surface_of g r b).bits ≤ 8
active_bits g r b a = bits_most g r b (placed_sizes a.placed).1 a.rule

-- the bitmap that BIT_BLT_M names is one
pub source_named : (a xmax ymax b : ℕ) → no_bitmap (bitmap_of a xmax ymax b) ≡ false
source_named a xmax ymax b =
    cond_ind (λ (m : Bitmap). no_bitmap m ≡ false) (eqb a pane_address) _ _ (λ e. refl) (λ e. refl)
