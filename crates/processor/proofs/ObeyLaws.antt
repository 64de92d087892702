-- A command tried: faulty, it is only recorded, and else it is done. A step is what the decoder's answer makes of the pane.
use mathlib.Core.Path.{◌≡◌, refl, sym, ap, ◌∙◌}
use mathlib.Core.List.{List}
use Prim.Native.Nat.{ℕ}
use borrow.Author.Tests.{eq-eqb, ne_eqb}
use Rattle.model.specs.declared.Geometry.{Geometry}
use Rattle.model.specs.declared.Row.{Row}
use Rattle.model.specs.declared.Pane.{Pane}
use Rattle.model.specs.declared.Command.{Command}
use Rattle.model.specs.declared.Decoded.{Decoded}
use Rattle.model.specs.declared.Decoded.TheVariants.{Do, End, Fault}
use Rattle.model.specs.Bitmaps.{pane_surface, pixels}
use Rattle.model.specs.Commands.{decode}
use Rattle.model.specs.Faults.{context_of, fault_of}
use Rattle.model.specs.Pixels.{changes}
use Rattle.model.specs.Record.{faulted}
use Rattle.model.specs.Runs.{carried, stepped}
use Rattle.model.specs.Steps.{Plan, attempted, obey, step}
use Rattle.model.proofs.Decisions.{cond_true, cond_false}
use Rattle.perform.specs.Performing.{finish, performed}
use Rattle.processor.specs.Obeying.{obeyed, stopped_of}

module _ (g : Geometry) (r : Row) (p : Pane) (next : ℕ) (c : Command) (screen store : List ℕ) where
  pub obeyed_fault : (f : ℕ) (q : Pane) → f ≡ fault_of g r (context_of p) store c → (f ≡ 0 → ⊥) → q ≡ faulted p f
      → finish 0 0 q screen store ≡ obeyed g r p next c screen store
  unfolding obeyed attempted changes
  obeyed_fault f q e n h =
      ap (λ (z : Pane). finish 0 0 z screen store) (h ∙ ap (faulted p) e)
      ∙ sym (ap (λ (z : Plan). carried g r z screen) (cond_false _ _ (ne_eqb (fault_of g r (context_of p) store c) 0 (λ z. n (e ∙ z)))))

  pub obeyed_done : fault_of g r (context_of p) store c ≡ 0 → performed g r p next c screen store ≡ obeyed g r p next c screen store
  unfolding obeyed attempted performed
  obeyed_done e = sym (ap (λ (z : Plan). carried g r z screen) (cond_true _ _ (eq-eqb (fault_of g r (context_of p) store c) 0 e)))

-- a step, by the decoder's answer
module _ (g : Geometry) (r : Row) (p : Pane) (screen store : List ℕ) where
  stepped_as : (d : Decoded) → decode r.len store p.progress.pointer ≡ d
      → stepped g r p screen store ≡ carried g r (obey g r p (pixels (pane_surface g r) screen) store d) screen
  unfolding stepped step
  stepped_as d e = ap (λ (z : Decoded). carried g r (obey g r p (pixels (pane_surface g r) screen) store z) screen) e

  pub stepped_do : (c : Command) (next : ℕ) → decode r.len store p.progress.pointer ≡ Do c next
      → obeyed g r p next c screen store ≡ stepped g r p screen store
  unfolding obeyed obey
  stepped_do c next e = sym (stepped_as (Do c next) e)

  -- the end, or a fault
  stopped_is : (d : Decoded) → ((c : Command) (next : ℕ) → d ≡ Do c next → ⊥)
      → finish 0 0 (stopped_of p d) screen store ≡ carried g r (obey g r p (pixels (pane_surface g r) screen) store d) screen
  unfolding obey changes
  stopped_is End n = refl
  stopped_is (Fault f) n = refl
  stopped_is (Do c next) n = absurd (n c next refl)

  pub stepped_stopped : (d : Decoded) (q : Pane) → d ≡ decode r.len store p.progress.pointer
      → ((c : Command) (next : ℕ) → d ≡ Do c next → ⊥) → q ≡ stopped_of p d → finish 0 0 q screen store ≡ stepped g r p screen store
  stepped_stopped d q e n h =
      ap (λ (z : Pane). finish 0 0 z screen store) h ∙ stopped_is d n ∙ sym (stepped_as d (sym e))
