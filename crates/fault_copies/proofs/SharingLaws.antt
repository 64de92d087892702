-- A source that shares no byte with the active bitmap: the words of its block's rows lie before that bitmap's rows, or
-- behind them.
use mathlib.Core.Path.{◌≡◌, refl, sym, ap, ◌∙◌}
use mathlib.Core.Logic.{◌⊎◌, inl, inr, ⊎_elim}
use mathlib.Core.Bool.{false, true≢false}
use Prim.Native.Nat.{ℕ, suc, ◌+◌, ◌-◌, ◌*◌, ◌≤◌, ◌<◌}
use native.Mathlib.Omega.{arith}
use Rattle.model.specs.declared.Geometry.{Geometry}
use Rattle.model.specs.declared.Row.{Row}
use Rattle.model.specs.declared.Block.{Block}
use Rattle.model.specs.declared.Surface.{Surface}
use Rattle.model.specs.declared.Bitmap.{Bitmap}
use Rattle.model.specs.declared.Bitmap.TheVariants as bitmap
use Rattle.model.specs.Bitmaps.{is_pane, word_of, bitmap_bytes, touches, surface_of, store_surface, Depth}
use Rattle.model.specs.Copies.{Rectangle, rectangle_of, block_bad, block_touches, sharing}
use Rattle.model.proofs.SetupLaws.{any_below_lem}
use Rattle.bitmaps.specs.Areas.{area_of, landing_area, rows_end}
use Rattle.bitmaps.proofs.BytesLaws.{share_span_before}
use Rattle.fault_copies.specs.Sharing.{row_from, row_to, Unshared}
use Rattle.fault_copies.proofs.BlockLaws.{plain_rectangle, block_bad_within, word_le}

-- ## Bytes

-- a block in the store, whose rows begin with their first column, and an active bitmap there
touches_apart : (s : Surface) (b : Block) (a xmax ymax d : ℕ) → s.left ≡ 0 → s.top ≡ 0
    → block_touches (bitmap.Store a xmax ymax d) s (plain_rectangle b) ≡ false → a < rows_end (store_surface a xmax ymax d) → (j : ℕ) → j ≤ b.dy
    → (row_to s b j ≤ a) ⊎ (rows_end (store_surface a xmax ymax d) ≤ row_from s b j)
unfolding block_touches touches store_surface
touches_apart s b a xmax ymax d left top e some j k =
    let w = word_le s.bits b.x (b.x + b.dx) (omega arith) in
    rw (left, top) (⊎_elim (λ l. inl (omega arith)) (λ l. inr (omega arith))
    (share_span_before (s.base + 2 * ((b.y + j) * s.words + word_of s.bits b.x))
    (2 * (suc (word_of s.bits (b.x + b.dx)) - word_of s.bits b.x)) a (bitmap_bytes xmax ymax d)
    (any_below_lem (suc b.dy) _ j e (omega arith)) (omega arith) (omega arith)))

-- ## By the source's bitmap and the active one

-- a source that is the pane
pub sharing_pane : (active : Bitmap) (x y b : ℕ) (s : Surface) (c : Rectangle) → sharing active (bitmap.Pane x y b) s c ≡ is_pane active
unfolding sharing
sharing_pane bitmap.Absent x y b s c = refl
sharing_pane (bitmap.Pane xm ym m) x y b s c = refl
sharing_pane (bitmap.Store a xm ym m) x y b s c = refl

module _ (g : Geometry) (r : Row) (b : Block) where
  -- pane to pane is a fault, pane and store are different buffers
  plain_unshared : (active source : Bitmap) → Depth (surface_of g r source).bits
      → sharing active source (surface_of g r source) (plain_rectangle b) ≡ false → Unshared (landing_area g r active) (area_of g r source) b
  unfolding surface_of store_surface sharing
  plain_unshared active bitmap.Absent d e = absurd (let z : ⊥ = omega (arith, d.fills) in z)
  plain_unshared bitmap.Absent (bitmap.Pane xmax ymax m) d e = record { rows = λ f. absurd (true≢false f) }
  plain_unshared (bitmap.Pane xm ym n) (bitmap.Pane xmax ymax m) d e = absurd (true≢false e)
  plain_unshared (bitmap.Store a xm ym n) (bitmap.Pane xmax ymax m) d e = record { rows = λ f. absurd (true≢false f) }
  plain_unshared bitmap.Absent (bitmap.Store a xmax ymax m) d e = record { rows = λ f some j k. inr (omega arith) }
  plain_unshared (bitmap.Pane xm ym n) (bitmap.Store a xmax ymax m) d e = record { rows = λ f. absurd (true≢false (sym f)) }
  plain_unshared (bitmap.Store base xm ym n) (bitmap.Store a xmax ymax m) d e =
      record { rows = λ f. touches_apart (store_surface a xmax ymax m) b base xm ym n refl refl e }

  -- a block that is not bad
  pub sharing_unshared : (active source : Bitmap) → Depth (surface_of g r source).bits → block_bad (surface_of g r source) (rectangle_of b) ≡ false
      → sharing active source (surface_of g r source) (rectangle_of b) ≡ false → Unshared (landing_area g r active) (area_of g r source) b
  sharing_unshared active source d e f =
      plain_unshared active source d (sym (ap (sharing active source (surface_of g r source)) (block_bad_within _ b e).is) ∙ f)
