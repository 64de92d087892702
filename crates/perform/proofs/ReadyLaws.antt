-- A sound pane with an active bitmap is ready to be drawn on.
use mathlib.Core.Path.{◌≡◌, refl, ◌∙◌}
use mathlib.Core.Bool.{false}
use Prim.Native.Nat.{ℕ, ◌+◌, ◌-◌, ◌*◌, ◌≤◌}
use native.Mathlib.Nat.{mul-le-mul_left}
use native.Mathlib.Omega.{arith}
use lib.ListN.{length, replicate, length-replicate}
use Rattle.model.specs.declared.Geometry.{Geometry}
use Rattle.model.specs.declared.Row.{Row}
use Rattle.model.specs.declared.Pane.{Pane}
use Rattle.model.specs.declared.Bitmap.{Bitmap}
use Rattle.model.specs.declared.Bitmap.TheVariants as bitmap
use Rattle.model.specs.declared.Clip.{Clip}
use Rattle.model.specs.declared.Scissor.{Scissor}
use Rattle.model.specs.Bitmaps.{row_words, surface_of, store_surface}
use Rattle.model.specs.Faults.{no_bitmap}
use Rattle.model.proofs.SetupLaws.{depth_of}
use Rattle.bitmaps.specs.Places.{Placed, Cornered}
use Rattle.bitmaps.specs.Areas.{Active, screen_from, landing_area}
use Rattle.bitmaps.proofs.AreaLaws.{placed_sizes}
use Rattle.bitmaps.proofs.BitmapLaws.{rule_broken_store, bitmap_fits_store, clip_within}
use Rattle.canvas.specs.Targets.{Ready, Aimable, landing_clip, target_in, target_of}
use Rattle.canvas.proofs.LandingLaws.{Landing, limits_within}
use Rattle.perform.specs.Performing.{Sound}

-- what the target of a pane is made from
pub sound_aimable : {g : Geometry} {r : Row} {p : Pane} {m n : ℕ} → Sound g r p m n → Aimable g r p
sound_aimable s =
    let sizes = placed_sizes s.placed in
    record {
      placed = record { width = sizes.0; depth = sizes.1; left = omega (arith, s.placed.right); top = omega (arith, s.placed.bottom) };
      op = omega (arith, s.good.op);
      scissor = s.good.scissor;
    }

-- .. where its corner is
pub sound_corner : {g : Geometry} {r : Row} {p : Pane} {m n : ℕ} → Sound g r p m n → Cornered r
sound_corner s = record {
  left = omega (arith, s.placed.right, s.placed.width);
  top = omega (arith, s.placed.bottom, s.placed.height);
}

-- .. what its scissor holds
pub sound_landing : {g : Geometry} {r : Row} {p : Pane} {m n : ℕ} → Sound g r p m n → Landing g r p.bitmap p.clip p.scissor
sound_landing s = record {
  right = s.placed.right;
  bottom = s.placed.bottom;
  rule = s.good.rule;
  clip = s.good.clip;
  scissor = s.good.scissor;
}

-- .. and what its active bitmap is
pub sound_active : {g : Geometry} {r : Row} {p : Pane} {m n : ℕ} → Sound g r p m n → Active g r p.bitmap
sound_active s = record { screen = _; store = _; placed = s.placed; rule = s.good.rule }

-- a row of the screen has room for its pixels
row_room : (g : Geometry) → g.width * g.depth ≤ 16 * row_words g.width g.depth
row_room g = omega arith

module _ (g : Geometry) (r : Row) (p : Pane) {m n : ℕ} (h : Placed g r m n) where
  ready_by : (b : Bitmap) (c : Clip) (s : Scissor) → Landing g r b c s → no_bitmap b ≡ false
      → Ready (target_in (landing_area g r b) (landing_clip r b s c) p) m n
  unfolding surface_of screen_from store_surface
  ready_by bitmap.Absent c s l a = let z : ◌≡◌ {A = ℕ} 0 1 = cc in absurd (let f : ⊥ = omega arith in f)
  ready_by (bitmap.Pane x y b) c s l a =
      let across : r.left + (g.width - r.left) ≡ g.width = omega (arith, h.right) in
      let down : r.top + (g.height - r.top) ≡ g.height = omega (arith, h.bottom) in
      let w = limits_within g r c l h.wide h.tall in
      let d : g.width * g.depth ≤ g.width * 8 = mul-le-mul_left g.width (placed_sizes h).1 in
      let k : g.height * row_words g.width g.depth ≤ g.height * 2048 = mul-le-mul_left g.height (omega (arith, h.width)) in
      record {
        depth = depth_of g.depth h.depth;
        right = rw across (row_room g);
        small = omega (arith, across, h.width);
        long = rw down (omega (arith, h.long));
        near = rw down (omega (arith, h.height));
        east = omega (arith, w.0, h.right);
        south = omega (arith, w.1, h.bottom);
        table = refl;
      }
  ready_by (bitmap.Store at x y b) c s l a =
      let e : length (replicate {A = ℕ} n 0) ≡ n = length-replicate {A = ℕ} n 0 in
      let f = bitmap_fits_store g r (replicate {A = ℕ} n 0) at x y b l.rule (e ∙ h.part) in
      let w = clip_within g r (bitmap.Store at x y b) c a l.rule l.clip in
      record {
        depth = f.depth;
        right = f.right;
        small = omega (arith, (rule_broken_store g r x y b at l.rule).right);
        long = omega (arith, f.long, e);
        near = omega (arith, f.long, e, h.part, h.most);
        east = w.right;
        south = w.bottom;
        table = refl;
      }

pub ready_of : (g : Geometry) (r : Row) (p : Pane) (m n : ℕ) → Sound g r p m n → no_bitmap p.bitmap ≡ false
    → Ready (target_of g r p) m n
unfolding target_of
ready_of g r p m n h a = ready_by g r p h.placed p.bitmap p.clip p.scissor (sound_landing h) a
