-- What a run's loop carries: what is left to run gives the same end, the pane stays sound, and the counts stay in their bounds.
use mathlib.Core.Path.{◌≡◌, refl, sym, ap, subst, ◌∙◌}
use mathlib.Core.List.{List}
use Prim.Native.Nat.{ℕ, suc, ◌+◌, ◌*◌, ◌^◌, ◌≤◌, ◌<◌}
use native.Mathlib.Nat.{add-zero}
use native.Mathlib.Omega.{arith}
use lib.ListN.{length, get_or}
use Rattle.model.specs.declared.Geometry.{Geometry}
use Rattle.model.specs.declared.Row.{Row}
use Rattle.model.specs.declared.Pane.{Pane}
use Rattle.model.specs.Numbers.{status_running}
use Rattle.model.specs.Bitmaps.{pane_surface, pixels}
use Rattle.model.specs.declared.Command.{Command}
use Rattle.model.specs.declared.Decoded.{Decoded}
use Rattle.model.specs.declared.Decoded.TheVariants.{Do, End, Fault}
use Rattle.model.specs.Commands.{decode}
use Rattle.model.specs.Runs.{Finish, PaintFits, most_pixels, stepped, runs}
use Rattle.perform.specs.Performing.{Sound, finish}
use Rattle.batches.specs.Batches.{onward}
use Rattle.batches.proofs.OnwardLaws.{onward_step, onward_idle}
use Rattle.processor.specs.Obeying.{Runs, finish_of, stopped_of}
use Rattle.processor.specs.declared.Finished.{Finished}
use Rattle.processor.proofs.KeepLaws.{step_good}
use Rattle.processor.proofs.ObeyLaws.{stepped_stopped}

-- after an end word or a fault the status is not 1
stopped_idle : (p : Pane) (d : Decoded) → ((c : Command) (next : ℕ) → d ≡ Do c next → ⊥) → (stopped_of p d).progress.status ≡ status_running → ⊥
stopped_idle p End none e = omega arith
stopped_idle p (Fault f) none e = omega arith
stopped_idle p (Do c next) none e = none c next refl

module _ (g : Geometry) (r : Row) where
  -- an end word, or a fault of the decoder, ends the run
  pub onward_stopped : (n m h : ℕ) (p q : Pane) (s t : List ℕ) (d : Decoded) → p.progress.status ≡ status_running
      → d ≡ decode r.len t p.progress.pointer → ((c : Command) (next : ℕ) → d ≡ Do c next → ⊥) → q ≡ stopped_of p d
      → onward g r (suc n) (finish m h p s t) ≡ finish m h q s t
  onward_stopped n m h p q s t d e f none k =
      onward_step g r n m h p s t 0 0 q s t e (stepped_stopped g r p s t d q f none k)
      ∙ onward_idle g r n (finish (m + 0) (h + 0) q s t) (λ z. stopped_idle p d none (sym (ap (λ (x : Pane). x.progress.status) k) ∙ z))
      ∙ (λ i. finish (add-zero m i) (add-zero h i) q s t)

-- what holds at the loop's head
pub record Running (g : Geometry) (r : Row) (budget : ℕ) (p : Pane) (screen₀ store₀ screen store : List ℕ) (q : Pane) (count paint rest : ℕ) : Type 0 where
  pub sound : Sound g r q (length screen) (length store)
  pub bytes : (k : ℕ) → get_or store k 0 < 256
  pub wide : length screen ≡ length screen₀
  pub tall : length store ≡ length store₀
  pub spent : count + rest ≤ budget
  pub few : paint ≤ count * most_pixels
  pub same : onward g r rest (finish count paint q screen store) ≡ runs g r budget p screen₀ store₀

-- a step keeps the pane sound
pub sound_step : {g : Geometry} {r : Row} {p q : Pane} (s t s' t' : List ℕ) (k j : ℕ) → p.progress.status ≡ status_running
    → ((i : ℕ) → get_or t i 0 < 256) → Sound g r p (length s) (length t) → length s' ≡ length s → length t' ≡ length t
    → finish k j q s' t' ≡ stepped g r p s t → Sound g r q (length s') (length t')
unfolding stepped
sound_step {g = g} {r = r} {p = p} s t s' t' k j e b h wide tall same = record {
  placed = rw (wide, tall) h.placed;
  good = rw (ap (λ (f : Finish). f.pane) same) (step_good g r p h.good (pixels (pane_surface g r) s) t e b);
}

-- where a run ends: what it leaves, and that its pixels fit
module _ {g : Geometry} {r : Row} {budget : ℕ} {p : Pane} {screen store screen' store' : List ℕ} {s : Finished} (rest : ℕ) where
  pub run_ends : budget < 2 ^ 32 → s.count + rest ≤ budget → s.paint ≤ s.count * most_pixels
      → finish_of s screen' store' ≡ runs g r budget p screen store → Runs g r budget p screen store s screen' store'
  run_ends wide spent few e = record {
    leaves = e;
    paint = subst (PaintFits budget) e (record { commands = omega arith; budgeted = wide; limited = few; fits = omega arith });
  }
