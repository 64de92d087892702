-- A batch, or one command tried, and what is then left to run.
use mathlib.Core.Path.{◌≡◌, sym, ap, ap₂, subst, ◌∙◌}
use mathlib.Core.List.{List}
use Prim.Native.Nat.{ℕ, suc, max, ◌-◌, ◌<◌}
use native.Mathlib.Nat.{zero-add}
use native.Mathlib.Omega.{arith}
use lib.ListN.{length, get_or}
use Rattle.model.specs.declared.Geometry.{Geometry}
use Rattle.model.specs.declared.Row.{Row}
use Rattle.model.specs.declared.Pane.{Pane}
use Rattle.model.specs.declared.Command.{Command}
use Rattle.model.specs.Runs.{stepped}
use Rattle.perform.specs.Performing.{Sound, finish}
use Rattle.batches.specs.declared.Batch.{Batch}
use Rattle.batches.specs.Batches.{Batches, onward, reached}
use Rattle.batches.proofs.OnwardLaws.{onward_none, onward_step}
use Rattle.batches.proofs.BatchLaws.{reached_sound}
use Rattle.processor.specs.declared.Finished.{Finished}
use Rattle.processor.specs.Obeying.{Advancing, Advances, Obeys, finished_with, finish_of}
use Rattle.processor.proofs.ObeyLaws.{stepped_do}
use Rattle.processor.proofs.RunningLaws.{sound_step}

module _ {g : Geometry} {r : Row} {budget : ℕ} {p : Pane} {screen store screen' store' : List ℕ} where
  -- a batch that is not empty
  pub advance_batch : {b : Batch} {s : Finished} → Sound g r p (length screen) (length store) → length screen' ≡ length screen
      → length store' ≡ length store → Batches g r budget p screen store b screen' store' → 0 < b.count
      → s ≡ finished_with (reached p b.pointer b.position) b.count b.paint → Advances g r budget p screen store s screen' store'
  advance_batch {b} sound wide tall h some e =
      let most : max 1 b.count ≡ b.count = omega arith in
      subst (λ (z : Finished). Advances g r budget p screen store z screen' store') (sym e)
      (record {
        leaves =
            ap (λ (n : ℕ). onward g r (budget - n) (finish b.count b.paint (reached p b.pointer b.position) screen' store')) most
            ∙ h.leaves;
        within = omega (arith, most, h.within);
        few = h.few;
        sound = reached_sound b.pointer b.position sound wide tall;
      })

  -- one command tried
  pub advance_obey : {c : Command} {next : ℕ} {s : Finished} {screen₁ store₁ : List ℕ} → Advancing g r p (length screen) store c next budget
      → ((k : ℕ) → get_or store k 0 < 256) → screen₁ ≡ screen → store₁ ≡ store → length screen' ≡ length screen → length store' ≡ length store
      → Obeys g r p next c screen₁ store₁ s screen' store' → Advances g r budget p screen store s screen' store'
  advance_obey {c} {next} {s} {screen₁} a bytes same same_2 wide tall h =
      let o : Obeys g r p next c screen store s screen' store' =
      subst (λ (x : List ℕ). Obeys g r p next c x store s screen' store') same
      (subst (λ (x : List ℕ). Obeys g r p next c screen₁ x s screen' store') same_2 h) in
      let e : finish_of s screen' store' ≡ stepped g r p screen store = o.leaves ∙ stepped_do g r p screen store c next a.told in
      let most : max 1 s.count ≡ 1 = omega (arith, o.one) in
      let whole : suc (budget - 1) ≡ budget = omega (arith, a.some) in
      record {
        leaves =
            ap (λ (n : ℕ). onward g r (budget - n) (finish_of s screen' store')) most
            ∙ ap₂ (λ (m n : ℕ). onward g r (budget - 1) (finish m n s.pane screen' store')) (sym (zero-add s.count)) (sym (zero-add s.paint))
            ∙ sym (onward_step g r (budget - 1) 0 0 p screen store s.count s.paint s.pane screen' store' a.running e)
            ∙ ap (λ (n : ℕ). onward g r n (finish 0 0 p screen store)) whole
            ∙ onward_none g r budget p screen store;
        within = omega (arith, most, a.some);
        few = o.few;
        sound = sound_step screen store screen' store' s.count s.paint a.running bytes a.sound wide tall e;
      }
