-- One point of the walk: what the decoder's answer, a fault or a command without one makes of it.
use mathlib.Core.Path.{◌≡◌, refl, sym, ap, ◌∙◌}
use mathlib.Core.List.{List}
use Prim.Native.Nat.{ℕ, zero, suc}
use borrow.Author.Tests.{eq-eqb, ne_eqb}
use Rattle.model.specs.declared.Geometry.{Geometry}
use Rattle.model.specs.declared.Row.{Row}
use Rattle.model.specs.declared.Pane.{Pane}
use Rattle.model.specs.declared.Context.{Context}
use Rattle.model.specs.declared.Command.{Command}
use Rattle.model.specs.declared.Decoded.{Decoded}
use Rattle.model.specs.declared.Decoded.TheVariants.{Do, End}
use Rattle.model.specs.declared.Decoded.TheVariants as decoded
use Rattle.model.specs.declared.Fault.{Fault}
use Rattle.model.specs.Numbers.{fault_number, fault_met, fault_long}
use Rattle.model.specs.Replies.{Verdict, Clean, Found}
use Rattle.model.specs.Ranges.{or_else}
use Rattle.model.specs.Record.{fresh}
use Rattle.model.specs.Commands.{decode}
use Rattle.model.specs.Faults.{context_of, fault_of}
use Rattle.model.specs.Judge.{judged_fault, record_after, judged_command, met, met_last, list_walk}
use Rattle.model.proofs.Decisions.{cond_true, cond_false}
use Rattle.judge.specs.Roles.{role_of}
use Rattle.judge.proofs.RoleLaws.{barred_role}

-- ## What stands at the pointer

module _ (g : Geometry) (r : Row) (store : List ℕ) (p : Pane) where
  pub walk_end : (n : ℕ) → decode r.len store p.progress.pointer ≡ End → list_walk g r store n p ≡ Clean n
  unfolding list_walk met_last met
  walk_end zero e = ap (met_last p) e
  walk_end (suc n) e = ap (met g r store (suc n) (λ q. list_walk g r store n q) p) e

  pub walk_long : (d : Decoded) → (d ≡ End → ⊥) → decode r.len store p.progress.pointer ≡ d → list_walk g r store 0 p ≡ Found fault_long p.progress.pointer
  unfolding list_walk met_last
  walk_long End n e = absurd (n refl)
  walk_long (decoded.Fault f) n e = ap (met_last p) e
  walk_long (Do c next) n e = ap (met_last p) e

  pub walk_fault : (n : ℕ) (f : Fault) → (n ≡ 0 → ⊥) → decode r.len store p.progress.pointer ≡ decoded.Fault f
      → list_walk g r store n p ≡ Found (fault_number f) p.progress.pointer
  unfolding list_walk met
  walk_fault zero f h e = absurd (h refl)
  walk_fault (suc n) f h e = ap (met g r store (suc n) (λ q. list_walk g r store n q) p) e

  pub walk_do : (n : ℕ) (c : Command) (next : ℕ) → decode r.len store p.progress.pointer ≡ Do c next
      → list_walk g r store (suc n) p ≡ judged_command g r store (λ q. list_walk g r store n q) p c next
  unfolding list_walk met
  walk_do n c next e = ap (met g r store (suc n) (λ q. list_walk g r store n q) p) e

  -- ## A command

  module _ (on : Pane → Verdict) (c : Command) (next f : ℕ) (e : f ≡ judged_fault g r (context_of p) store c) where
    pub judged_fault_lem : (f ≡ 0 → ⊥) → judged_command g r store on p c next ≡ Found f p.progress.pointer
    unfolding judged_command
    judged_fault_lem n =
        cond_false _ _ (ne_eqb (judged_fault g r (context_of p) store c) 0 (λ z. n (e ∙ z))) ∙ ap (λ (k : ℕ). Found k p.progress.pointer) (sym e)

    pub judged_none : f ≡ 0 → judged_command g r store on p c next ≡ on (record_after g r p store next c)
    unfolding judged_command
    judged_none z = cond_true _ _ (eq-eqb (judged_fault g r (context_of p) store c) 0 (sym e ∙ z))

-- ## A command, examined

-- what the judge finds with it: that it is barred, or else its own fault
pub examined : (g : Geometry) (r : Row) (x : Context) (store : List ℕ) (c : Command)
    → judged_fault g r x store c ≡ or_else (fault_met (role_of c)) (fault_of g r x store c)
unfolding judged_fault
examined g r x store c = rw (barred_role g r fresh store c)
