-- What a verdict ahead means for runs: it is due once the budgets add to a number, one more than the commands before it. A run of m brings it m nearer, and
-- leaves the store as it was. The trap switch is off all along: no run stops at a T.
use mathlib.Core.Path.{◌≡◌, refl, sym, subst, ◌∙◌}
use mathlib.Core.Bool.{false}
use mathlib.Core.List.{List}
use Prim.Native.Nat.{ℕ, zero, suc, ◌-◌, ◌<◌}
use native.Mathlib.Omega.{arith}
use native.Mathlib.Numerals.{unary_clauses}
use borrow.Author.Tests.{eq-eqb, ne_eqb}
use lib.Dec.{eqb}
use lib.ListN.{get_or}
use Rattle.model.specs.declared.Geometry.{Geometry}
use Rattle.model.specs.declared.Row.{Row}
use Rattle.model.specs.declared.Pane.{Pane}
use Rattle.model.specs.declared.Command.{Command}
use Rattle.model.specs.declared.Decoded.TheVariants.{Do}
use Rattle.model.specs.Numbers.{status_running, status_ended, status_faulted, fault_number}
use Rattle.model.specs.Replies.{Verdict, Clean, Found}
use Rattle.model.specs.Bitmaps.{pane_surface, pixels}
use Rattle.model.specs.Record.{ended, faulted}
use Rattle.model.specs.Commands.{decode}
use Rattle.model.specs.Faults.{context_of, fault_of}
use Rattle.model.specs.Judge.{judged_fault}
use Rattle.model.specs.Runs.{Finish, stepped, follow, runs}
use Rattle.refusals.specs.Good.{Good}
use Rattle.processor.proofs.KeepLaws.{step_good}
use Rattle.judge.specs.Roles.{role_of}
use Rattle.judge.proofs.RoleLaws.{Standing, standing_of, changed, NotStore, changed_apart, follows, none_fault, none_followed}
use Rattle.verdicts.proofs.StepLaws.{shown_by, plan_store, step_end, step_fetch, step_fault, step_done}
use Rattle.verdicts.proofs.AheadLaws.{Ahead, ends, fetches, faults, goes}

-- ## A verdict that is due

-- there: ended, or faulted with that fault at that address
abbrev pub Reached : Verdict → Pane → Type 0
Reached (Clean rest) p = p.progress.status ≡ status_ended
Reached (Found f a) p = p.progress ≡ record { status = status_faulted; fault = f; pointer = a }

reached_still : (v : Verdict) (p : Pane) → Reached v p → eqb p.progress.status status_running ≡ false
reached_still (Clean rest) p h = ne_eqb p.progress.status status_running (λ e. omega arith)
reached_still (Found f a) p h = rw h

module _ (g : Geometry) (r : Row) (store : List ℕ) (v : Verdict) where
  -- running, n commands before it; the store will stay as it is
  pub record Going (n : ℕ) (p : Pane) : Type 0 where
    pub running : p.progress.status ≡ status_running
    pub apart : NotStore p.bitmap
    pub ahead : Ahead g r store v n (standing_of p)

  -- reached by a budget of so many
  abbrev pub Due : ℕ → Pane → Type 0
  Due zero p = Reached v p
  Due (suc n) p = Going n p

  -- .. which holds of what a step or a run leaves; the trap switch is still off, and the store as it was
  pub record DueAfter (n : ℕ) (f : Finish) : Type 0 where
    pub due : Due n f.pane
    pub off : f.pane.flags.switch ≡ false
    pub kept : f.store ≡ store

  -- ## A step

  module _ (p : Pane) (screen : List ℕ) (running : p.progress.status ≡ status_running) (apart : NotStore p.bitmap) (off : p.flags.switch ≡ false) where
    step_on : (n : ℕ) (c : Command) (next : ℕ) → decode r.len store p.progress.pointer ≡ Do c next → judged_fault g r (context_of p) store c ≡ 0
        → Ahead g r store v n (changed (standing_of p) next (role_of c)) → DueAfter (suc n) (stepped g r p screen store)
    step_on n c next e z w =
        let k = follows g r p (shown_by g r p screen store) store next c in
        let stands = k.stands (none_followed g r p store c z) in
        subst (λ (f : Finish). DueAfter (suc n) f) (sym (step_done g r p screen store c next e (none_fault g r p store c z)))
        (record {
          due = record {
            running = (k.unstopped off).0 ∙ running;
            apart = subst (λ (s : Standing). NotStore s.bitmap) (sym stands) (changed_apart (standing_of p) next (role_of c) apart);
            ahead = subst (λ (s : Standing). Ahead g r store v n s) (sym stands) w;
          };
          off = (k.unstopped off).1;
          kept = plan_store g r p store next _ apart;
        })

    step_ahead : (n : ℕ) → Ahead g r store v n (standing_of p) → DueAfter n (stepped g r p screen store)
    step_ahead n (ends rest e h) = subst (λ (f : Finish). DueAfter 0 f) (sym (step_end g r p screen store e))
        (record { due = subst (λ (x : Verdict). Reached x (ended p)) (sym h) refl; off = off; kept = refl })
    step_ahead n (fetches f e h) = subst (λ (x : Finish). DueAfter 0 x) (sym (step_fetch g r p screen store f e))
        (record { due = subst (λ (x : Verdict). Reached x (faulted p (fault_number f))) (sym h) refl; off = off; kept = refl })
    step_ahead n (faults c next e z h) = subst (λ (f : Finish). DueAfter 0 f) (sym (step_fault g r p screen store c next e z))
        (record { due = subst (λ (x : Verdict). Reached x (faulted p (fault_of g r (context_of p) store c))) (sym h) refl; off = off; kept = refl })
    step_ahead n (goes {n = k} c next e z w) = step_on k c next e z w

  step_due : (n : ℕ) (p : Pane) (screen : List ℕ) → Going n p → p.flags.switch ≡ false → DueAfter n (stepped g r p screen store)
  step_due n p screen w o = step_ahead p screen w.running w.apart o n w.ahead

  -- ## A run

  module _ (bytes : (i : ℕ) → get_or store i 0 < 256) where
    stepped_good : (p : Pane) (screen : List ℕ) → p.progress.status ≡ status_running → Good g r p → Good g r (stepped g r p screen store).pane
    unfolding stepped
    stepped_good p screen e h = step_good g r p h (pixels (pane_surface g r) screen) store e bytes

    -- a run of m brings it m nearer, and what refusal 12 checks is kept
    pub runs_due : (m n : ℕ) (p : Pane) (screen : List ℕ) → Due n p → p.flags.switch ≡ false → Good g r p
        → DueAfter (n - m) (runs g r m p screen store) × Good g r (runs g r m p screen store).pane
    unfolding runs follow
    runs_due zero n p screen h o q = simp unary_clauses (record { due = h; off = o; kept = refl }, q)
    runs_due (suc m) zero p screen h o q =
        rw (reached_still v p h, let e : 0 - suc m ≡ 0 = omega arith in e) (record { due = h; off = o; kept = refl }, q)
    runs_due (suc m) (suc n) p screen h o q =
        let f : Finish = stepped g r p screen store in
        let w = step_due n p screen h o in
        let z = runs_due m n f.pane f.screen w.due w.off (stepped_good p screen h.running q) in
        rw (eq-eqb p.progress.status status_running h.running, w.kept, let e : suc n - suc m ≡ n - m = omega arith in e)
        (record { due = z.0.due; off = z.0.off; kept = z.0.kept }, z.1)
