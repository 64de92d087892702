-- BIT_BLT_M without a fault: its source can be copied from, and what a bitmap shows is what its area does.
use Rattle.std.proofs.Common.{◌≡◌, ℕ, ◌+◌, ◌<◌, Bool, true, false, cond, ◌||◌, eqb, List, pos, ◌+ℤ◌, sym, refl, ap, ◌∙◌, subst, arith}
use borrow.Author.Tests.{lt-leb}
use Rattle.model.specs.declared.Geometry.{Geometry}
use Rattle.model.specs.declared.Row.{Row}
use Rattle.model.specs.declared.Block.{Block}
use Rattle.model.specs.declared.Point.{Point}
use Rattle.model.specs.declared.Surface.{Surface}
use Rattle.model.specs.declared.Source.TheVariants.{Copied}
use Rattle.model.specs.declared.Bitmap.{Bitmap}
use Rattle.model.specs.declared.Bitmap.TheVariants as bitmap
use Rattle.model.specs.Bitmaps.{is_pane, pixels, surface_of, pane_surface, store_surface, pane_address, rule_broken}
use Rattle.model.specs.Coordinates.{coord, offset, place, moved}
use Rattle.model.specs.Dots.{Dot, dot, drawing}
use Rattle.model.specs.Copies.{Rectangle, rectangle_of, seen, copy_dots, copy, block_bad, sharing}
use Rattle.model.specs.Faults.{no_bitmap, source_bitmap, copy_fault}
use Rattle.model.proofs.Decisions.{holds, either_false, cond_none}
use Rattle.model.proofs.DotLaws.{listed_cong, joined_cong}
use Rattle.model.proofs.SetupLaws.{rule_broken_pane}
use Rattle.bitmaps.specs.Places.{Placed}
use Rattle.bitmaps.specs.Areas.{screen_from, area_of, landing_area}
use Rattle.canvas.proofs.LandingLaws.{pixels_landing}
use Rattle.fault_copies.proofs.BlockLaws.{plain_rectangle, block_bad_within}
use Rattle.fault_copies.proofs.SharingLaws.{sharing_unshared}
use Rattle.fault_copies.proofs.ReadableLaws.{bitmap_readable}
use Rattle.draw_copies.specs.Transfers.{Copyable}

module _ (g : Geometry) (r : Row) where
  -- ## The source has the active bitmap's depth

  landing_bits : (active : Bitmap) → (landing_area g r active).surface.bits ≡ (surface_of g r active).bits
  unfolding surface_of pane_surface screen_from
  landing_bits bitmap.Absent = refl
  landing_bits (bitmap.Pane xmax ymax b) = refl
  landing_bits (bitmap.Store a xmax ymax b) = refl

  named_bits : (pane : Bool) (a xmax ymax b : ℕ) → rule_broken g r (cond pane (bitmap.Pane xmax ymax b) (bitmap.Store a xmax ymax b)) ≡ false
      → (surface_of g r (cond pane (bitmap.Pane xmax ymax b) (bitmap.Store a xmax ymax b))).bits ≡ b
  unfolding surface_of pane_surface store_surface
  named_bits true a xmax ymax b e = sym (rule_broken_pane g r xmax ymax b e).depth
  named_bits false a xmax ymax b e = refl

  pub source_depth : (active : Bitmap) (a xmax ymax : ℕ) → rule_broken g r (source_bitmap g r active a xmax ymax) ≡ false
      → (surface_of g r (source_bitmap g r active a xmax ymax)).bits ≡ (landing_area g r active).surface.bits
  source_depth active a xmax ymax e =
      named_bits (eqb a pane_address) a xmax ymax (surface_of g r active).bits e ∙ sym (landing_bits active)

  -- no fault after 23
  pub copy_fault_copyable : {m n : ℕ} → Placed g r m n → (active source : Bitmap) (b : Block) → no_bitmap source ≡ false
      → copy_fault g r active source (rectangle_of b) ≡ 0
      → (rule_broken g r source ≡ false → (surface_of g r source).bits ≡ (landing_area g r active).surface.bits)
      → Copyable (landing_area g r active) (area_of g r source) b m n
  copy_fault_copyable p active source b named e same =
      let bad = block_bad (surface_of g r source) (rectangle_of b) in
      let shared = sharing active source (surface_of g r source) (rectangle_of b) in
      let rule = cond_none (rule_broken g r source) _ _ tt e in
      let block = either_false bad shared (cond_none (bad || shared) _ _ tt rule.1).0 in
      let readable = bitmap_readable g r p source named rule.0 in
      record {
        readable = readable;
        within = block.0;
        unshared = sharing_unshared g r b active source readable.depth block.0 block.1;
        depth = same rule.0;
      }

  -- the pane by its reader, a store bitmap by the store
  pub seen_pixels : (b : Bitmap) (screen store : List ℕ) → no_bitmap b ≡ false
      → seen g r (pixels (pane_surface g r) screen) store b ≡ pixels (surface_of g r b) (cond (is_pane b) screen store)
  unfolding seen surface_of
  seen_pixels bitmap.Absent screen store a = absurd (holds (sym a))
  seen_pixels (bitmap.Pane xmax ymax b) screen store a = refl
  seen_pixels (bitmap.Store at xmax ymax b) screen store a = refl

-- ## BIT_BLT from the area that commands draw in

-- a block with its numbers in a surface
within_block : (s : Surface) (b : Block) → rectangle_of b ≡ plain_rectangle b → b.x + b.dx < s.width → b.y + b.dy < s.height
    → block_bad s (rectangle_of b) ≡ false
unfolding block_bad
within_block s b is east south =
    subst (λ (c : Rectangle). block_bad s c ≡ false) (sym is) (rw (lt-leb s.width (b.x + b.dx) east, lt-leb s.height (b.y + b.dy) south))

module _ (g : Geometry) (r : Row) {m n : ℕ} (p : Placed g r m n) where
  -- a block in the pane lies in the screen from the pane's corner on
  pub block_landing : (active : Bitmap) (b : Block) → block_bad (surface_of g r active) (rectangle_of b) ≡ false
      → block_bad (landing_area g r active).surface (rectangle_of b) ≡ false
  unfolding surface_of pane_surface screen_from
  block_landing bitmap.Absent b e = e
  block_landing (bitmap.Pane xmax ymax d) b e =
      let w = block_bad_within (pane_surface g r) b e in
      within_block (screen_from g r) b w.is (omega (arith, p.right, w.east)) (omega (arith, p.bottom, w.south))
  block_landing (bitmap.Store a xmax ymax d) b e = e

  -- and its pixels are read there as in the pane
  pub copy_landing : (active : Bitmap) (b : Block) → block_bad (surface_of g r active) (rectangle_of b) ≡ false
      → (screen store : List ℕ) (spacing : ℕ) (from : Point)
      → copy (pixels (landing_area g r active).surface (cond (landing_area g r active).onscreen screen store)) spacing from (rectangle_of b)
      ≡ copy (pixels (surface_of g r active) (cond (is_pane active) screen store)) spacing from (rectangle_of b)
  unfolding surface_of pane_surface copy copy_dots
  copy_landing bitmap.Absent b e screen store spacing from = refl
  copy_landing (bitmap.Pane xmax ymax d) b e screen store spacing from =
      let w = block_bad_within (pane_surface g r) b e in
      subst (λ (c : Rectangle). copy (pixels (screen_from g r) screen) spacing from c ≡ copy (pixels (pane_surface g r) screen) spacing from c) (sym w.is)
      (ap (λ (ds : List Dot). drawing ds (moved from (pos b.dx +ℤ coord spacing) (pos 0)))
      (joined_cong 0 _ _ _ (λ j lo hi. listed_cong 0 _ _ _ (λ i low high.
      ap (λ (v : ℕ). dot (offset (place from) (pos i) (pos j)) (Copied v))
      (pixels_landing g r p.right p.bottom (b.x + i) (b.y + j) (omega (arith, w.east)) (omega (arith, w.south)) screen)))))
  copy_landing (bitmap.Store a xmax ymax d) b e screen store spacing from = refl
