-- Bytes of the store that the check lets pass: they lie in the store, and none of them is the active bitmap's. So they read while a
-- command draws as they did before.
use mathlib.Core.Path.{◌≡◌, refl, sym}
use mathlib.Core.Logic.{◌⊎◌, inl, inr, ⊎_elim}
use mathlib.Core.Bool.{false}
use Prim.Native.Nat.{ℕ, zero, suc, ◌+◌, ◌-◌, ◌≤◌, ◌<◌}
use native.Mathlib.Nat.{mul_comm}
use native.Mathlib.Omega.{arith}
use Rattle.model.specs.declared.Geometry.{Geometry}
use Rattle.model.specs.declared.Row.{Row}
use Rattle.model.specs.declared.Pane.{Pane}
use Rattle.model.specs.declared.Bitmap.{Bitmap}
use Rattle.model.specs.declared.Bitmap.TheVariants as bitmap
use Rattle.model.specs.Bitmaps.{row_words, bitmap_bytes, store_surface, surface_of, share_span, touches}
use Rattle.model.specs.Faults.{bytes_bad}
use Rattle.model.proofs.Decisions.{holds}
use Rattle.bitmaps.proofs.BytesLaws.{bytes_bad_parts, bytes_bad_inside, share_span_apart}
use Rattle.canvas.specs.declared.Target.{Target}
use Rattle.canvas.specs.Canvas.{Clear, Reach}
use Rattle.bitmaps.specs.Areas.{landing_area, rows_end}
use Rattle.canvas.specs.Targets.{landing_clip, target_in, target_of, Aimed}

-- ## Bytes that touch no bitmap

rows_end_bytes : (a xmax ymax b : ℕ) → rows_end (store_surface a xmax ymax b) ≡ a + bitmap_bytes xmax ymax b
unfolding store_surface
rows_end_bytes a xmax ymax b = omega (arith, mul_comm (ymax + 1) (row_words (xmax + 1) b))

-- a byte of a span that has nothing in common with a store bitmap
beside : (a n base xmax ymax b j : ℕ) → share_span a n base (bitmap_bytes xmax ymax b) ≡ false → a ≤ j → j < a + n
    → (j < (store_surface base xmax ymax b).base) ⊎ (rows_end (store_surface base xmax ymax b) ≤ j)
unfolding store_surface
beside a n base xmax ymax b j h lo hi =
    ⊎_elim (λ x. inl x) (λ x. inr (omega (arith, x, rows_end_bytes base xmax ymax b))) (share_span_apart a n base (bitmap_bytes xmax ymax b) j h lo hi)

module _ {t : Target} {g : Geometry} {r : Row} where
  -- of the three kinds of bitmap, one in the store has bytes there
  clear : (active : Bitmap) → Aimed t g r active → (a n : ℕ) → touches active a n ≡ false → (j : ℕ) → a ≤ j → j < a + n → Clear t j
  unfolding touches surface_of
  clear bitmap.Absent h a n o j lo hi = inr (inr (rw (h.surface refl) (omega arith)))
  clear (bitmap.Pane xmax ymax b) h a n o j lo hi = inl (h.pane refl)
  clear (bitmap.Store base xmax ymax b) h a n o j lo hi =
      inr (rw (h.surface refl) (beside a n base xmax ymax b j o lo hi))

  pub bytes_bad_reach : (active : Bitmap) → Aimed t g r active → (a n : ℕ) → bytes_bad r active a n ≡ false → Reach t r.len a n
  bytes_bad_reach active h a n e =
      record {
        inside = bytes_bad_inside r active a n e;
        clear = λ j lo hi. clear active h a n (bytes_bad_parts r active a n (omega arith) e).1 j lo hi;
      }

-- a pane's target is its bitmap's
pub aimed_of : (g : Geometry) (r : Row) (p : Pane) → Aimed (target_of g r p) g r p.bitmap
unfolding target_of
aimed_of g r p = aimed p.bitmap
  where
    aimed : (b : Bitmap) → Aimed (target_in (landing_area g r b) (landing_clip r b p.scissor p.clip) p) g r b
    aimed bitmap.Absent = record { pane = λ e. e; surface = λ e. refl }
    aimed (bitmap.Pane xmax ymax b) = record { pane = λ e. e; surface = λ e. absurd (holds (sym e)) }
    aimed (bitmap.Store a xmax ymax b) = record { pane = λ e. e; surface = λ e. refl }

-- a part of bytes in reach
pub reach_part : {t : Target} {len a n : ℕ} → Reach t len a n → (b m : ℕ) → a ≤ b → b + m ≤ a + n → Reach t len b m
reach_part r b m lo hi =
    record { inside = λ j l k. r.inside j (omega arith) (omega arith); clear = λ j l k. r.clear j (omega arith) (omega arith) }

-- an array in reach lies in the store, unless it is empty
pub reach_room : {t : Target} {store array size : ℕ} → Reach t store array size → size ≤ store - array
reach_room {size = zero} r = omega arith
reach_room {array = array} {size = suc n} r = omega (arith, r.inside (array + n) (omega arith) (omega arith))
