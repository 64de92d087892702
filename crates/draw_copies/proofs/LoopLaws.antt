-- What the loops over a transfer carry: so many numbered steps are made, and each keeps the buffers' lengths
-- and adds few to the count.
use Rattle.std.proofs.Common.{◌≡◌, ℕ, zero, suc, ◌+◌, ◌*◌, ◌<◌, ◌≤◌, List, length, sym, ap, ◌∙◌, mul-le-mul_right, arith}
use Rattle.model.specs.Bitmaps.{pixels}
use Rattle.model.specs.Ranges.{listed}
use Rattle.model.specs.Dots.{Dot}
use Rattle.canvas.specs.declared.Target.{Target}
use Rattle.canvas.specs.Canvas.{Canvas, count_end}
use Rattle.canvas.proofs.CanvasLaws.{SameLengths, painted_all_none, painted_all_lengths, painted_all_hits, hits_length, listed_length}
use Rattle.draw_copies.specs.Steps.{steps, reversed_if}
use Rattle.draw_copies.specs.Transfers.{buffer_of, patch_dot, moved_row, moved_all, Movable}
use Rattle.draw_copies.specs.declared.Transfer.{Transfer}
use Rattle.draw_copies.proofs.StepLaws.{steps_none, steps_next, steps_idle}
use Rattle.draw_copies.proofs.MoveLaws.{lengths_refl, lengths_on}

-- ## What a step does at the most

-- each step keeps the buffers' lengths, and adds at most w to the count
pub record Bounded (g : ℕ → Canvas → Canvas) (w : ℕ) : Type 0 where
  pub lengths : (k : ℕ) (c : Canvas) → SameLengths c (g k c)
  pub few : (k : ℕ) (c : Canvas) → (g k c).hits ≤ c.hits + w

steps_few : {g : ℕ → Canvas → Canvas} {w : ℕ} → Bounded g w → (n : ℕ) (c : Canvas) → (steps g n c).hits ≤ c.hits + n * w
unfolding steps
steps_few b zero c = omega arith
steps_few {g} b (suc n) c = omega (arith, b.few n (steps g n c), steps_few b n c)

module _ (t : Target) (m : Transfer) where
  -- all rows, in their order
  abbrev pub all_steps : ℕ → Canvas → Canvas
  all_steps k = moved_row t m (reversed_if m.up m.patch.high k)

  pub all_steps_bounded : Bounded all_steps m.patch.wide
  unfolding moved_row
  all_steps_bounded = record {
    lengths = λ k c. painted_all_lengths t (dots k c) c;
    few = λ k c. omega (arith, painted_all_hits t (dots k c) c, hits_length t (dots k c), listed_length 0 m.patch.wide (columns k c));
  }
    where
      columns : ℕ → Canvas → ℕ → Dot
      columns k c = patch_dot (pixels m.source.surface (buffer_of m.source c)) m.patch (reversed_if m.up m.patch.high k)

      dots : ℕ → Canvas → List Dot
      dots k c = listed 0 m.patch.wide (columns k c)

  -- rows of no pixel
  pub moved_none : m.patch.wide ≡ 0 → (c : Canvas) → moved_all t m c ≡ c
  unfolding moved_all moved_row listed
  moved_none e c = steps_idle all_steps m.patch.high c (λ k l z. rw e (painted_all_none t z))

  -- no rows
  pub moved_no_row : m.patch.high ≡ 0 → (c : Canvas) → moved_all t m c ≡ c
  unfolding moved_all
  moved_no_row e c = rw e (steps_none _ c)

-- ## The invariant

-- k numbered steps are made on the canvas c₀, each with at most w more visible; c is the canvas now
pub record Stepped (g : ℕ → Canvas → Canvas) (w : ℕ) (c₀ c : Canvas) (k : ℕ) : Type 0 where
  pub bounded : Bounded g w
  pub made : c ≡ steps g k c₀
  pub lengths : SameLengths c₀ c

pub stepped_none : {g : ℕ → Canvas → Canvas} {w : ℕ} → Bounded g w → (c : Canvas) → Stepped g w c c 0
stepped_none b c = record { bounded = b; made = sym (steps_none _ c); lengths = lengths_refl c }

module _ {g : ℕ → Canvas → Canvas} {w : ℕ} (c₀ : Canvas) {c : Canvas} {k : ℕ} (s : Stepped g w c₀ c k) where
  pub stepped_next : {c' : Canvas} → c' ≡ g k c → Stepped g w c₀ c' (k + 1)
  stepped_next e = record {
    bounded = s.bounded;
    made = e ∙ ap (g k) s.made ∙ sym (steps_next g k c₀);
    lengths = rw e (lengths_on s.lengths (s.bounded.lengths k c));
  }

  -- a transfer can go on
  pub stepped_movable : {t : Target} {m : Transfer}
      → Movable t m (length c₀.screen) (length c₀.store) → Movable t m (length c.screen) (length c.store)
  stepped_movable h = rw (s.lengths.screen, s.lengths.store) h

  -- the count has room for one step more
  pub stepped_room : {n : ℕ} → k < n → c₀.hits + n * w < count_end → c.hits + w < count_end
  stepped_room l h = omega (arith, ap (λ (z : Canvas). z.hits) s.made, steps_few s.bounded k c₀, mul-le-mul_right w l)

-- 65,536 rows of 65,536 pixels are few
pub rows_few : (k w : ℕ) → k ≤ 65536 → w ≤ 65536 → k * w < count_end
rows_few k w h l = omega (arith, mul-le-mul_right w h)
