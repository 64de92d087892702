-- How far ahead a verdict stands: the commands that a walk goes over before it, counted. The walk names a fault that a run can meet, or a clean end, so many
-- commands ahead.
use mathlib.Core.Path.{◌≡◌, refl, sym, ap, subst, ◌∙◌}
use mathlib.Core.Logic.{◌≢◌, ⊎_elim}
use mathlib.Core.List.{List}
use Prim.Native.Nat.{ℕ, zero, suc, ◌+◌, ◌<◌}
use native.Mathlib.Omega.{arith}
use borrow.Author.Tests.{eq-eqb, eqb-true, eqb-false}
use lib.Dec.{eqb}
use Rattle.model.specs.declared.Geometry.{Geometry}
use Rattle.model.specs.declared.Row.{Row}
use Rattle.model.specs.declared.Pane.{Pane}
use Rattle.model.specs.declared.Command.{Command}
use Rattle.model.specs.declared.Decoded.{Decoded}
use Rattle.model.specs.declared.Decoded.TheVariants.{Do, End}
use Rattle.model.specs.declared.Decoded.TheVariants as decoded
use Rattle.model.specs.declared.Fault.{Fault}
use Rattle.model.specs.Numbers.{fault_barred, fault_long, fault_number}
use Rattle.model.specs.Replies.{Verdict, Clean, Found}
use Rattle.model.specs.Ranges.{or_else}
use Rattle.model.specs.Commands.{decode}
use Rattle.model.specs.Faults.{context_of, fault_of}
use Rattle.model.specs.Judge.{barred_fault, judged_fault, record_after, judged_command, met, met_last, list_walk}
use Rattle.model.proofs.Decisions.{split, cond_true, cond_false}
use Rattle.judge.specs.Roles.{role_of}
use Rattle.judge.proofs.RoleLaws.{Standing, standing_of, context_in, changed, follows, none_followed}

-- a verdict on runs: clean, or a fault that a run can meet
abbrev pub Real : Verdict → Type 0
Real (Clean rest) = Unit {0}
Real (Found f a) = (f ≢ fault_barred) × (f ≢ fault_long)

real_barred : {v : Verdict} {a : ℕ} {P : Type 0} → Real v → Found fault_barred a ≡ v → P
real_barred h e = absurd ((subst Real (sym e) h).0 refl)

real_long : {v : Verdict} {a : ℕ} {P : Type 0} → Real v → Found fault_long a ≡ v → P
real_long h e = absurd ((subst Real (sym e) h).1 refl)

-- a walk with so many commands left goes over n of them; a clean one says what is left
abbrev pub GoneOver : Verdict → ℕ → ℕ → Type 0
GoneOver (Clean rest) left n = n + rest ≡ left
GoneOver (Found f a) left n = n < left

gone_none : {v : Verdict} (f a left : ℕ) → Found f a ≡ v → GoneOver v (suc left) 0
gone_none f a left e = rw (← e) (omega arith)

gone_on : (v : Verdict) (left n : ℕ) → GoneOver v left n → GoneOver v (suc left) (suc n)
gone_on (Clean rest) left n h = omega arith
gone_on (Found f a) left n h = omega arith

module _ (g : Geometry) (r : Row) (store : List ℕ) where
  -- an end word or a fault stands here, or a command that is followed, and the rest is ahead of what it leaves
  pub data Ahead (v : Verdict) : ℕ → Standing → Type 0 where
    ends : {s : Standing} (rest : ℕ) → decode r.len store s.pointer ≡ End → v ≡ Clean rest → Ahead v 0 s
    fetches : {s : Standing} (f : Fault) → decode r.len store s.pointer ≡ decoded.Fault f → v ≡ Found (fault_number f) s.pointer → Ahead v 0 s
    faults : {s : Standing} (c : Command) (next : ℕ) → decode r.len store s.pointer ≡ Do c next → fault_of g r (context_in s) store c ≢ 0
        → v ≡ Found (fault_of g r (context_in s) store c) s.pointer → Ahead v 0 s
    goes : {n : ℕ} {s : Standing} (c : Command) (next : ℕ) → decode r.len store s.pointer ≡ Do c next → judged_fault g r (context_in s) store c ≡ 0
        → Ahead v n (changed s next (role_of c)) → Ahead v (suc n) s

  -- the verdict, and where it stands ahead of a record
  pub record Walked (v : Verdict) (left : ℕ) (p : Pane) : Type 0 where
    pub commands : ℕ
    pub ahead : Ahead v commands (standing_of p)
    pub gone : GoneOver v left commands

  module _ (v : Verdict) (real : Real v) (p : Pane) where
    abbrev here : Decoded
    here = decode r.len store p.progress.pointer

    -- no command is left to walk
    last_walked : (d : Decoded) → here ≡ d → met_last p d ≡ v → Walked v 0 p
    unfolding met_last
    last_walked End e h = record { commands = 0; ahead = ends 0 e (sym h); gone = rw (← h) refl }
    last_walked (decoded.Fault f) e h = real_long real h
    last_walked (Do c next) e h = real_long real h

    -- the judge finds a fault with the command: 31, or its own
    fault_walked : (k : ℕ) (c : Command) (next : ℕ) → here ≡ Do c next → judged_fault g r (context_of p) store c ≢ 0
        → Found (judged_fault g r (context_of p) store c) p.progress.pointer ≡ v → Walked v (suc k) p
    unfolding judged_fault
    fault_walked k c next e z h = ⊎_elim
        (λ w.
        let u = cond_true (fault_of g r (context_of p) store c) (barred_fault c) (eq-eqb (barred_fault c) 0 w.0) in
        let j : Found (fault_of g r (context_of p) store c) p.progress.pointer ≡ v = ap (λ (f : ℕ). Found f p.progress.pointer) (sym u) ∙ h in
        record { commands = 0; ahead = faults c next e (λ x. z (u ∙ x)) (sym j); gone = gone_none _ _ k j })
        (λ w. real_barred real (ap (λ (f : ℕ). Found (or_else f (fault_of g r (context_of p) store c)) p.progress.pointer) (sym w.0) ∙ h))
        (follows g r p (λ x y. 0) store next c).cases

    -- it finds none
    goes_walked : (k : ℕ) (c : Command) (next : ℕ) → here ≡ Do c next → judged_fault g r (context_of p) store c ≡ 0
        → Walked v k (record_after g r p store next c) → Walked v (suc k) p
    unfolding record_after
    goes_walked k c next e z w = record {
      commands = suc w.commands;
      ahead = goes c next e z
          (subst (λ (s : Standing). Ahead v w.commands s) ((follows g r p (λ x y. 0) store next c).stands (none_followed g r p store c z)) w.ahead);
      gone = gone_on v k w.commands w.gone;
    }

    met_walked : (k : ℕ) → ((q : Pane) → list_walk g r store k q ≡ v → Walked v k q) → (d : Decoded) → here ≡ d
        → met g r store (suc k) (λ q. list_walk g r store k q) p d ≡ v → Walked v (suc k) p
    unfolding met judged_command
    met_walked k ih End e h = record { commands = 0; ahead = ends (suc k) e (sym h); gone = rw (← h) (omega arith) }
    met_walked k ih (decoded.Fault f) e h = record { commands = 0; ahead = fetches f e (sym h); gone = gone_none (fault_number f) p.progress.pointer k h }
    met_walked k ih (Do c next) e h = split (eqb (judged_fault g r (context_of p) store c) 0)
        (λ t. goes_walked k c next e (eqb-true (judged_fault g r (context_of p) store c) 0 t)
        (ih (record_after g r p store next c) (sym (cond_true _ _ t) ∙ h)))
        (λ t. fault_walked k c next e (eqb-false (judged_fault g r (context_of p) store c) 0 t) (sym (cond_false _ _ t) ∙ h))

  pub walked : (v : Verdict) → Real v → (left : ℕ) (p : Pane) → list_walk g r store left p ≡ v → Walked v left p
  unfolding list_walk
  walked v real zero p h = last_walked v real p (decode r.len store p.progress.pointer) refl h
  walked v real (suc k) p h = met_walked v real p k (λ q e. walked v real k q e) (decode r.len store p.progress.pointer) refl h
