-- A bitmap that keeps DEF_BITMAP's rule can be read in the buffer where it lies, and its bytes have small
-- addresses.
use mathlib.Core.Path.{◌≡◌, sym}
use mathlib.Core.Bool.{Bool, true, false, cond}
use Prim.Native.Nat.{ℕ, ◌^◌, ◌≤◌}
use native.Mathlib.Nat.{mul-le-mul_left, mul-le-mul_right}
use native.Mathlib.Omega.{arith}
use Rattle.model.specs.declared.Geometry.{Geometry}
use Rattle.model.specs.declared.Row.{Row}
use Rattle.model.specs.declared.Surface.{Surface}
use Rattle.model.specs.declared.Bitmap.{Bitmap}
use Rattle.model.specs.declared.Bitmap.TheVariants as bitmap
use Rattle.model.specs.Bitmaps.{is_pane, row_words, surface_of, pane_surface, store_surface, rule_broken}
use Rattle.model.specs.Setup.{screen_bytes}
use Rattle.model.specs.Faults.{no_bitmap}
use Rattle.model.proofs.Decisions.{holds}
use Rattle.bitmaps.specs.Places.{Placed}
use Rattle.bitmaps.specs.Areas.{Readable}
use Rattle.bitmaps.proofs.DepthLaws.{is_depth_known}
use Rattle.bitmaps.proofs.BitmapLaws.{rule_broken_store}

-- in a longer buffer
readable_on : {u : Surface} {m n : ℕ} → m ≤ n → Readable u m → Readable u n
readable_on h r = record { depth = r.depth; right = r.right; small = r.small; long = omega (arith, r.long) }

module _ (g : Geometry) (r : Row) {m n : ℕ} (p : Placed g r m n) where
  -- in the bytes that the screen needs, or in the store's
  rule_readable : (b : Bitmap) → no_bitmap b ≡ false → rule_broken g r b ≡ false
      → Readable (surface_of g r b) (cond (is_pane b) (screen_bytes g) r.len)
  unfolding surface_of pane_surface store_surface
  rule_readable bitmap.Absent a h = absurd (holds (sym a))
  rule_readable (bitmap.Pane xmax ymax b) a h = record {
    depth = (is_depth_known g.depth p.depth).depth;
    right = omega (arith, mul-le-mul_right g.depth p.right);
    small = omega (arith, p.right, p.width);
    long = omega (arith, mul-le-mul_right (row_words g.width g.depth) p.bottom);
  }
  rule_readable (bitmap.Store at xmax ymax b) a h =
      let s = rule_broken_store g r xmax ymax b at h in
      record { depth = s.known.depth; right = omega arith; small = omega (arith, s.right); long = omega (arith, s.room) }

  module _ (b : Bitmap) (named : no_bitmap b ≡ false) (kept : rule_broken g r b ≡ false) where
    pub bitmap_readable : Readable (surface_of g r b) (cond (is_pane b) m n)
    bitmap_readable = readable_on (longer (is_pane b)) (rule_readable b named kept)
      where
        longer : (pane : Bool) → cond pane (screen_bytes g) r.len ≤ cond pane m n
        longer true = p.long
        longer false = omega (arith, p.part)

    pub bitmap_small : Readable (surface_of g r b) (2 ^ 32)
    bitmap_small = readable_on (small (is_pane b)) (rule_readable b named kept)
      where
        small : (pane : Bool) → cond pane (screen_bytes g) r.len ≤ 2 ^ 32
        small true =
            let w : row_words g.width g.depth ≤ 2048 =
            omega (arith, mul-le-mul_right g.depth p.width, mul-le-mul_left 4096 (is_depth_known g.depth p.depth).most) in
            omega (arith, mul-le-mul_left g.height w, p.height)
        small false = omega (arith, p.most)
