-- One step of a running pane, by what stands at its pointer: an end word or a fault changes its progress alone, a command without a fault is done.
-- Where the pane's bitmap is not in the store, no step changes the store.
use mathlib.Core.Path.{◌≡◌, refl, ap, ◌∙◌}
use mathlib.Core.List.{List}
use Prim.Native.Nat.{ℕ}
use borrow.Author.Tests.{eq-eqb, ne_eqb}
use Rattle.model.specs.declared.Geometry.{Geometry}
use Rattle.model.specs.declared.Row.{Row}
use Rattle.model.specs.declared.Pane.{Pane}
use Rattle.model.specs.declared.Bitmap.{Bitmap}
use Rattle.model.specs.declared.Bitmap.TheVariants as bitmap
use Rattle.model.specs.declared.Command.{Command}
use Rattle.model.specs.declared.Decoded.{Decoded}
use Rattle.model.specs.declared.Decoded.TheVariants.{Do, End}
use Rattle.model.specs.declared.Decoded.TheVariants as decoded
use Rattle.model.specs.declared.Fault.{Fault}
use Rattle.model.specs.Numbers.{fault_number}
use Rattle.model.specs.Bitmaps.{pane_surface, pixels, surface_of}
use Rattle.model.specs.Record.{ended, faulted}
use Rattle.model.specs.Pixels.{Change}
use Rattle.model.specs.Commands.{decode}
use Rattle.model.specs.Faults.{context_of, fault_of}
use Rattle.model.specs.Effects.{Effect, becomes, draws, effect_of}
use Rattle.model.specs.Steps.{Plan, stopped, on_store, made_by, plan_of, attempted, obey, step}
use Rattle.model.specs.Runs.{carried, stepped}
use Rattle.model.proofs.Decisions.{cond_true, cond_false}
use Rattle.judge.proofs.RoleLaws.{NotStore}

-- ## The store

on_store_kept : (g : Geometry) (r : Row) (b : Bitmap) (cs : List Change) (store : List ℕ) → NotStore b → on_store g r b cs store ≡ store
on_store_kept g r bitmap.Absent cs store h = refl
on_store_kept g r (bitmap.Pane xmax ymax b) cs store h = refl
on_store_kept g r (bitmap.Store a xmax ymax b) cs store h = absurd h

pub plan_store : (g : Geometry) (r : Row) (p : Pane) (store : List ℕ) (next : ℕ) (e : Effect) → NotStore p.bitmap → (plan_of g r p store next e).store ≡ store
unfolding plan_of
plan_store g r p store next (becomes q) h = refl
plan_store g r p store next (draws d) h = on_store_kept g r p.bitmap (made_by (surface_of g r p.bitmap) p d) store h

-- ## What stands at the pointer

module _ (g : Geometry) (r : Row) (p : Pane) (screen store : List ℕ) where
  -- what the pane shows
  abbrev pub shown_by : ℕ → ℕ → ℕ
  shown_by = pixels (pane_surface g r) screen

  stepped_as : (d : Decoded) → decode r.len store p.progress.pointer ≡ d → stepped g r p screen store ≡ carried g r (obey g r p shown_by store d) screen
  unfolding stepped step
  stepped_as d e = ap (λ (z : Decoded). carried g r (obey g r p shown_by store z) screen) e

  pub step_end : decode r.len store p.progress.pointer ≡ End → stepped g r p screen store ≡ carried g r (stopped (ended p) store) screen
  unfolding obey
  step_end e = stepped_as End e

  pub step_fetch : (f : Fault) → decode r.len store p.progress.pointer ≡ decoded.Fault f
      → stepped g r p screen store ≡ carried g r (stopped (faulted p (fault_number f)) store) screen
  unfolding obey
  step_fetch f e = stepped_as (decoded.Fault f) e

  module _ (c : Command) (next : ℕ) (e : decode r.len store p.progress.pointer ≡ Do c next) where
    pub step_fault : (fault_of g r (context_of p) store c ≡ 0 → ⊥)
        → stepped g r p screen store ≡ carried g r (stopped (faulted p (fault_of g r (context_of p) store c)) store) screen
    unfolding obey attempted
    step_fault n = stepped_as (Do c next) e
        ∙ ap (λ (q : Plan). carried g r q screen) (cond_false _ _ (ne_eqb (fault_of g r (context_of p) store c) 0 n))

    pub step_done : fault_of g r (context_of p) store c ≡ 0
        → stepped g r p screen store ≡ carried g r (plan_of g r p store next (effect_of g r p shown_by store next c)) screen
    unfolding obey attempted
    step_done z = stepped_as (Do c next) e
        ∙ ap (λ (q : Plan). carried g r q screen) (cond_true _ _ (eq-eqb (fault_of g r (context_of p) store c) 0 z))
