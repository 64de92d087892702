-- A verdict that is due stays so under every call on its pane but put, start, clear and the switch turned on, and each run brings it nearer by its budget:
-- over lists of calls.
use mathlib.Core.Path.{◌≡◌, refl, sym, ap, subst, ◌∙◌}
use mathlib.Core.Logic.{◌≢◌}
use mathlib.Core.Bool.{Bool, false, not, ◌&&◌}
use mathlib.Core.List.{List, [], ◌∷◌}
use Prim.Native.Nat.{ℕ, zero, suc, ◌+◌, ◌-◌, ◌<◌}
use native.Mathlib.Omega.{arith}
use native.Mathlib.Numerals.{unary_clauses}
use borrow.Author.Tests.{eqb-true, eqb-false, eq-eqb}
use lib.Dec.{eqb}
use lib.ListN.{get_or}
use Rattle.model.specs.declared.Geometry.{Geometry}
use Rattle.model.specs.declared.Row.{Row}
use Rattle.model.specs.declared.Pane.{Pane}
use Rattle.model.specs.declared.Ran.{Ran}
use Rattle.model.specs.Numbers.{status_running, status_trapped}
use Rattle.model.specs.Replies.{Response, Verdict}
use Rattle.model.specs.Runs.{Finish, runs}
use Rattle.model.specs.Setup.{trap_bad}
use Rattle.model.specs.Calls.{State, Call, put, start, run, look, pixel, peek, clear, judge, switch, Request, on, part, own_refusal, refusal}
use Rattle.model.specs.Calls.{record_of, on_pane}
use Rattle.model.specs.Calls.{released, ran_of, exec}
use Rattle.model.proofs.Decisions.{split, and_true, cond_false}
use Rattle.model.proofs.CallLaws.{exec_refused}
use Rattle.model.proofs.QuietLaws.{Quiet, looks, sees, peeks, judges, exec_quiet, exec_switched}
use Rattle.refusals.specs.Good.{Good}
use Rattle.isolation.specs.TwoRuns.{after}
use Rattle.isolation.proofs.States.{Share, share_of, On}
use Rattle.isolation.proofs.Frame.{exec_on, exec_other}
use Rattle.verdicts.specs.Verdicts.{Between, AllBetween, budget, budgets, RunReply, refused, ran}
use Rattle.verdicts.proofs.DueLaws.{Due, DueAfter, runs_due}
use Rattle.verdicts.proofs.DoneLaws.{refusal_own, PaneAfter, done, exec_done}

module _ (g : Geometry) (k : ℕ) (r : Row) (store : List ℕ) (bytes : (i : ℕ) → get_or store i 0 < 256) (v : Verdict) where
  -- the pane is in a state, with that store and the trap switch off, and the verdict is due once further budgets add to n
  pub record Pending (n : ℕ) (s : State) : Type 0 where
    pub here : On g k r s
    pub same : part s.stores r.start r.len ≡ store
    pub due : Due g r store v n (record_of s k)
    pub off : (record_of s k).flags.switch ≡ false
    pub good : Good g r (record_of s k)

  -- ## The switch is off

  module _ (n : ℕ) (s : State) (h : Pending n s) where
    -- so the status is not 4, or refusal 12 would apply
    untrapped : eqb (record_of s k).progress.status status_trapped ≡ false
    unfolding trap_bad
    untrapped =
        sym (and_true (eqb (record_of s k).progress.status status_trapped) _ (ap (λ (b : Bool). not (b && (record_of s k).flags.trap)) h.off))
        ∙ h.good.trap

    -- and a run begins with the record as it is
    same_released : released (record_of s k) ≡ record_of s k
    unfolding released
    same_released = cond_false _ _ untrapped

  -- ## A call on another pane

  pending_other : (n : ℕ) (s : State) → Pending n s → (c : Request) → c.number ≢ k → Pending n (exec s c).state
  unfolding share_of
  pending_other n s h c d =
      let e = exec_other g k r s h.here c d in
      let p : record_of (exec s c).state k ≡ record_of s k = ap (λ (x : Share). x.pane) e in
      record {
        here = exec_on g k r s h.here c;
        same = ap (λ (x : Share). x.store) e ∙ h.same;
        due = subst (λ (q : Pane). Due g r store v n q) (sym p) h.due;
        off = ap (λ (q : Pane). q.flags.switch) p ∙ h.off;
        good = subst (λ (q : Pane). Good g r q) (sym p) h.good;
      }

  -- ## A run

  module _ (n m : ℕ) (s : State) (h : Pending n s) where
    f : Finish
    f = runs g r m (released (record_of s k)) s.screen (part s.stores r.start r.len)

    f_due : DueAfter g r store v (n - m) f × Good g r f.pane
    unfolding f
    f_due = rw (h.same, same_released n s h) (runs_due g r store v bytes m n (record_of s k) s.screen h.due h.off h.good)

    f_after : refusal s (on k (run m)) ≡ 0 → PaneAfter g k r s (run m) (done g k r s h.here (run m))
    f_after e = exec_done g k r s h.here (run m) e

    -- carried out, it leaves what is due
    accepted_run : refusal s (on k (run m)) ≡ 0 → Pending (n - m) (exec s (on k (run m))).state
    unfolding on_pane f
    accepted_run e = record {
      here = (f_after e).here;
      same = (f_after e).store ∙ f_due.0.kept;
      due = subst (λ (q : Pane). Due g r store v (n - m) q) (sym (f_after e).pane) f_due.0.due;
      off = ap (λ (q : Pane). q.flags.switch) (f_after e).pane ∙ f_due.0.off;
      good = subst (λ (q : Pane). Good g r q) (sym (f_after e).pane) f_due.1;
    }

    accepted_reply : (P : Ran → Type 0)
        → ((e : Finish) (i : ℕ) → Due g r store v i e.pane → P (ran_of e))
        → refusal s (on k (run m)) ≡ 0 → RunReply P (exec s (on k (run m))).reply
    unfolding on_pane f
    accepted_reply P from e = subst (λ (a : Response). RunReply P a) (sym (f_after e).reply) (ran _ (from f (n - m) f_due.0.due))

    -- refused, it is there already
    refused_run : (i : ℕ) → Due g r store v i (record_of s k) → (refusal s (on k (run m)) ≡ 0 → ⊥) → i ≡ 0
    unfolding own_refusal
    refused_run zero w d = refl
    refused_run (suc i) w d =
        absurd (d (refusal_own g k r s (run m) h.here h.good ∙ rw (eq-eqb (record_of s k).progress.status status_running w.running)))

    pending_run : Pending (n - m) (exec s (on k (run m))).state
    pending_run = split (eqb (refusal s (on k (run m))) 0) (λ t. accepted_run (eqb-true _ 0 t))
        (λ t.
        let d = eqb-false (refusal s (on k (run m))) 0 t in
        let e = refused_run n h.due d in
        rw (exec_refused s (on k (run m)) d, let z : n - m ≡ n = omega arith in z) h)

    -- its reply: refused, or one of which holds what holds of every record with that verdict due
    pub run_reply : (P : Ran → Type 0)
        → ((e : Finish) (i : ℕ) → Due g r store v i e.pane → P (ran_of e))
        → RunReply P (exec s (on k (run m))).reply
    run_reply P from = split (eqb (refusal s (on k (run m))) 0) (λ t. accepted_reply P from (eqb-true _ 0 t))
        (λ t. rw (exec_refused s (on k (run m)) (eqb-false (refusal s (on k (run m))) 0 t)) (refused _))

  -- ## Any call between

  pending_quiet : (n : ℕ) (s : State) → Pending n s → (x : Call) → Quiet x → Pending (n - 0) (exec s (on k x)).state
  pending_quiet n s h x q = rw (exec_quiet s k x q) (simp unary_clauses h)

  pending_between : (n : ℕ) (s : State) → Pending n s → (x : Call) → Between x → Pending (n - budget x) (exec s (on k x)).state
  pending_between n s h (put a bytes) b = absurd b
  pending_between n s h (start a) b = absurd b
  pending_between n s h (run m) b = pending_run n m s h
  pending_between n s h look b = pending_quiet n s h look looks
  pending_between n s h (pixel x y) b = pending_quiet n s h (pixel x y) (sees x y)
  pending_between n s h (peek a) b = pending_quiet n s h (peek a) (peeks a)
  pending_between n s h clear b = absurd b
  pending_between n s h (judge a) b = pending_quiet n s h (judge a) (judges a)
  pending_between n s h (switch x) b = rw (exec_switched x b s k h.off (untrapped n s h)) (simp unary_clauses h)

  pending_own : (n : ℕ) (s : State) → Pending n s → (c : Request) → c.number ≡ k → Between c.call → Pending (n - budget c.call) (exec s c).state
  pending_own n s h c e b =
      subst (λ (i : ℕ). Pending (n - budget c.call) (exec s (on i c.call)).state) (sym e) (pending_between n s h c.call b)

  -- ## Lists of calls

  pub pending_after : (cs : List Request) (n : ℕ) (s : State) → Pending n s → AllBetween k cs → Pending (n - budgets k cs) (after s cs)
  unfolding after budgets
  pending_after [] n s h b = simp unary_clauses h
  pending_after (c ∷ cs) n s h b = split (eqb c.number k)
      (λ t.
      let e = eqb-true c.number k t in
      let w = pending_after cs (n - budget c.call) (exec s c).state (pending_own n s h c e (b.0 e)) b.1 in
      rw (t, let z : n - (budget c.call + budgets k cs) ≡ n - budget c.call - budgets k cs = omega arith in z) w)
      (λ t.
      let w = pending_after cs n (exec s c).state (pending_other n s h c (eqb-false c.number k t)) b.1 in
      rw (t, let z : n - (0 + budgets k cs) ≡ n - budgets k cs = omega arith in z) w)
