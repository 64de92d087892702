-- What DEF_BITMAP's rule and the clip's test say where they don't refuse: a bitmap's pixels lie in its buffer, and the clip in the bitmap.
use mathlib.Core.Path.{◌≡◌, refl, sym}
use mathlib.Core.Bool.{false, not, ◌||◌}
use mathlib.Core.List.{List}
use Prim.Native.Nat.{ℕ, ◌+◌, ◌%◌, ◌≤◌, ◌<◌}
use native.Mathlib.Omega.{arith}
use native.Mathlib.Nat.{mul-le-mul_right}
use lib.Dec.{ltb, eqb}
use lib.ListN.{length}
use borrow.Author.Tests.{ltb-false, le-ltb, not-false}
use Rattle.model.specs.declared.Geometry.{Geometry}
use Rattle.model.specs.declared.Row.{Row}
use Rattle.model.specs.declared.Bitmap.{Bitmap}
use Rattle.model.specs.declared.Bitmap.TheVariants as bitmap
use Rattle.model.specs.declared.Clip.{Clip}
use Rattle.model.specs.declared.Surface.{Surface}
use Rattle.model.specs.Bitmaps.{is_depth, row_words, bitmap_bytes, bitmap_of, pane_address, pane_surface, store_surface, surface_of, store_bitmap_bad}
use Rattle.model.specs.Bitmaps.{rule_broken, Fits}
use Rattle.model.specs.Faults.{no_bitmap, clip_beyond, clip_outside}
use Rattle.model.proofs.Decisions.{holds, either_false, cond_ind}
use Rattle.model.proofs.SetupLaws.{rule_broken_pane, ClipIn, clip_beyond_says}
use Rattle.bitmaps.specs.Places.{Placed}
use Rattle.bitmaps.proofs.DepthLaws.{Known, is_depth_known, even_of}

-- ## The rule

-- a bitmap in a store of so many bytes
pub record StoreBitmap (len a xmax ymax b : ℕ) : Type 0 where
  pub even : a % 2 ≡ 0
  pub right : xmax ≤ 0x7FFF
  pub bottom : ymax ≤ 0x7FFF
  pub known : Known b
  pub room : a + bitmap_bytes xmax ymax b ≤ len

pub store_bitmap_bad_says : (len a xmax ymax b : ℕ) → store_bitmap_bad len a xmax ymax b ≡ false → StoreBitmap len a xmax ymax b
unfolding store_bitmap_bad
store_bitmap_bad_says len a xmax ymax b h =
    let beyond = ltb len (a + bitmap_bytes xmax ymax b) in
    let p = either_false (eqb (a % 2) 1) (ltb 0x7FFF xmax || (ltb 0x7FFF ymax || (not (is_depth b) || beyond))) h in
    let q = either_false (ltb 0x7FFF xmax) (ltb 0x7FFF ymax || (not (is_depth b) || beyond)) p.1 in
    let s = either_false (ltb 0x7FFF ymax) (not (is_depth b) || beyond) q.1 in
    let t = either_false (not (is_depth b)) beyond s.1 in
    record {
      even = even_of a p.0;
      right = ltb-false 0x7FFF xmax q.0;
      bottom = ltb-false 0x7FFF ymax s.0;
      known = is_depth_known b (not-false (is_depth b) t.0);
      room = ltb-false len (a + bitmap_bytes xmax ymax b) t.1;
    }

module _ (g : Geometry) (r : Row) (xmax ymax b : ℕ) where
  pub rule_broken_store : (a : ℕ) → rule_broken g r (bitmap.Store a xmax ymax b) ≡ false → StoreBitmap r.len a xmax ymax b
  unfolding rule_broken
  rule_broken_store a = store_bitmap_bad_says r.len a xmax ymax b

-- ## A bitmap's pixels lie in its buffer

-- the pane in the screen
pub pane_fits : (g : Geometry) (r : Row) (screen : List ℕ) (store : ℕ) → Placed g r (length screen) store → Fits (pane_surface g r) screen
unfolding pane_surface
pane_fits g r screen store p =
    record {
      depth = (is_depth_known g.depth p.depth).depth;
      right = let h = mul-le-mul_right g.depth p.right in omega arith;
      long = let h = mul-le-mul_right (row_words g.width g.depth) p.bottom in omega (arith, p.long);
    }

pub bitmap_fits_store : (g : Geometry) (r : Row) (store : List ℕ) (a xmax ymax b : ℕ)
    → rule_broken g r (bitmap.Store a xmax ymax b) ≡ false → length store ≡ r.len → Fits (surface_of g r (bitmap.Store a xmax ymax b)) store
unfolding surface_of store_surface
bitmap_fits_store g r store a xmax ymax b h e =
    let s = rule_broken_store g r xmax ymax b a h in
    let room = s.room in
    record { depth = s.known.depth; right = omega arith; long = omega arith }

-- ## The clip lies in the bitmap

-- all four values of a clip are columns and rows of a surface
pub record ClipWithin (s : Surface) (c : Clip) : Type 0 where
  pub left : c.xmin < s.width
  pub top : c.ymin < s.height
  pub right : c.xmax < s.width
  pub bottom : c.ymax < s.height

within : (xmax ymax : ℕ) (c : Clip) (s : Surface) → xmax + 1 ≡ s.width → ymax + 1 ≡ s.height → ClipIn xmax ymax c → ClipWithin s c
within xmax ymax c s w t h =
    record {
      left = omega (arith, h.left);
      top = omega (arith, h.top);
      right = omega (arith, h.right);
      bottom = omega (arith, h.bottom);
    }

pub clip_within : (g : Geometry) (r : Row) (b : Bitmap) (c : Clip) → no_bitmap b ≡ false → rule_broken g r b ≡ false → clip_outside b c ≡ false
    → ClipWithin (surface_of g r b) c
unfolding clip_outside surface_of pane_surface store_surface
clip_within g r bitmap.Absent c n h o = absurd (holds (sym n))
clip_within g r (bitmap.Pane xmax ymax b) c n h o =
    let p = rule_broken_pane g r xmax ymax b h in within xmax ymax c (pane_surface g r) p.width p.height (clip_beyond_says xmax ymax c o)
clip_within g r (bitmap.Store a xmax ymax b) c n h o = within xmax ymax c (store_surface a xmax ymax b) refl refl (clip_beyond_says xmax ymax c o)

-- the clip that DEF_BITMAP sets
pub whole_clip_lem : (a xmax ymax b : ℕ) → clip_outside (bitmap_of a xmax ymax b) (record { xmin = 0; ymin = 0; xmax = xmax; ymax = ymax }) ≡ false
unfolding clip_outside
whole_clip_lem a xmax ymax b =
    cond_ind (λ (m : Bitmap). clip_outside m (record { xmin = 0; ymin = 0; xmax = xmax; ymax = ymax }) ≡ false) (eqb a pane_address) _ _ (λ e. whole) (λ e. whole)
  where
    whole : clip_beyond xmax ymax (record { xmin = 0; ymin = 0; xmax = xmax; ymax = ymax }) ≡ false
    whole = simp (le-ltb xmax 0 (omega arith), le-ltb ymax 0 (omega arith), le-ltb xmax xmax (omega arith), le-ltb ymax ymax (omega arith))
