-- A call on a pane with a good record: no refusal but its own, and carried out it leaves what `on_pane` says. So a pane that is cleared and started
-- stands where the judge begins, with its store as it was.
use mathlib.Core.Path.{◌≡◌, sym, ap, subst, ◌∙◌}
use Prim.Native.Nat.{ℕ}
use borrow.Author.Tests.{lt-leb}
use Rattle.model.specs.declared.Geometry.{Geometry}
use Rattle.model.specs.declared.Row.{Row}
use Rattle.model.specs.declared.Pane.{Pane}
use Rattle.model.specs.Record.{fresh}
use Rattle.model.specs.Setup.{pane_bad}
use Rattle.model.specs.Calls.{State, Call, start, clear, on, Answer, Outcome, started, part, own_refusal, setup_refusal, call_checks, call_refusal}
use Rattle.model.specs.Calls.{refusal, row_of}
use Rattle.model.specs.Calls.{record_of, store_of, on_pane, with_pane, accepted, exec}
use Rattle.model.proofs.CallLaws.{exec_accepted}
use Rattle.refusals.specs.Good.{Good}
use Rattle.refusals.proofs.GoodLaws.{good_fresh, good_started, good_pane_bad}
use Rattle.isolation.proofs.States.{On}
use Rattle.isolation.proofs.Frame.{taken, outcome_of, accepted_record, accepted_store, exec_on}

module _ (g : Geometry) (k : ℕ) (r : Row) where
  -- ## Refusals

  open_call : (s : State) → On g k r s → Good g r (record_of s k) → call_refusal s k ≡ 0
  unfolding call_checks setup_refusal row_of record_of
  open_call s o h = rw (
    o.consistent.check,
    lt-leb s.console.count k o.here,
    ap (λ (x : Geometry). pane_bad x (row_of s k) (record_of s k)) o.geometry ∙ ap (λ (x : Row). pane_bad g x (record_of s k)) o.row
        ∙ good_pane_bad g r (record_of s k) h,
  )

  pub refusal_own : (s : State) (x : Call) → On g k r s → Good g r (record_of s k) → refusal s (on k x) ≡ own_refusal (row_of s k) (record_of s k) x
  unfolding refusal
  refusal_own s x o h = rw (open_call s o h)

  -- ## A call that is not refused

  -- the pane's part of everything after it
  pub record PaneAfter (s : State) (x : Call) (o : Outcome) : Type 0 where
    pub here : On g k r (exec s (on k x)).state
    pub reply : (exec s (on k x)).reply ≡ o.reply
    pub pane : record_of (exec s (on k x)).state k ≡ o.pane
    pub store : part (exec s (on k x)).state.stores r.start r.len ≡ o.store

  module _ (s : State) (o : On g k r s) (x : Call) where
    -- what it does
    abbrev pub done : Outcome
    done = on_pane g r (record_of s k) s.screen (part s.stores r.start r.len) x

    outcome_done : outcome_of s (on k x) ≡ done
    unfolding outcome_of store_of
    outcome_done =
        ap (λ (y : Geometry). on_pane y (row_of s k) (record_of s k) s.screen (part s.stores (row_of s k).start (row_of s k).len) x) o.geometry
        ∙ ap (λ (y : Row). on_pane g y (record_of s k) s.screen (part s.stores y.start y.len) x) o.row

    reply_done : (accepted s (on k x)).reply ≡ done.reply
    unfolding accepted with_pane outcome_of
    reply_done = ap (λ (y : Outcome). y.reply) outcome_done

    pub exec_done : refusal s (on k x) ≡ 0 → PaneAfter s x done
    exec_done e = record {
      here = exec_on g k r s o (on k x);
      reply = ap (λ (a : Answer). a.reply) (exec_accepted s (on k x) e) ∙ reply_done;
      pane = ap (λ (a : Answer). record_of a.state k) (exec_accepted s (on k x) e) ∙ accepted_record s o.consistent (on k x) (taken s (on k x) e)
          ∙ ap (λ (y : Outcome). y.pane) outcome_done;
      store = ap (λ (a : Answer). part a.state.stores r.start r.len) (exec_accepted s (on k x) e)
          ∙ sym (ap (λ (y : Row). part (accepted s (on k x)).state.stores y.start y.len) o.row)
          ∙ accepted_store s o.consistent (on k x) (taken s (on k x) e) ∙ ap (λ (y : Outcome). y.store) outcome_done;
    }

  -- ## Cleared and started, where a start is not refused

  -- the record from which the judge walks, and the store as it was
  pub record Begun (s : State) (a : ℕ) (t : State) : Type 0 where
    pub here : On g k r t
    pub pane : record_of t k ≡ started fresh a
    pub good : Good g r (record_of t k)
    pub store : part t.stores r.start r.len ≡ part s.stores r.start r.len

  module _ (s : State) (a : ℕ) (o : On g k r s) (clears : refusal s (on k clear) ≡ 0) (starts : own_refusal (row_of s k) (record_of s k) (start a) ≡ 0) where
    abbrev s₁ : State
    s₁ = (exec s (on k clear)).state

    cleared : PaneAfter s clear (done s o clear)
    cleared = exec_done s o clear clears

    cleared_good : Good g r (record_of s₁ k)
    unfolding on_pane
    cleared_good = subst (λ (p : Pane). Good g r p) (sym cleared.pane) (good_fresh g r)

    startable : refusal s₁ (on k (start a)) ≡ 0
    unfolding own_refusal
    startable =
        refusal_own s₁ (start a) cleared.here cleared_good
        ∙ ap (λ (y : Row). own_refusal y (record_of s k) (start a)) (cleared.here.row ∙ sym o.row) ∙ starts

    pub exec_begun : Begun s a (exec s₁ (on k (start a))).state
    unfolding on_pane
    exec_begun =
        let w = exec_done s₁ cleared.here (start a) startable in
        let e : record_of (exec s₁ (on k (start a))).state k ≡ started fresh a = w.pane ∙ ap (λ (p : Pane). started p a) cleared.pane in
        record {
          here = w.here;
          pane = e;
          good = subst (λ (p : Pane). Good g r p) (sym e) (good_started (good_fresh g r) a);
          store = w.store ∙ cleared.store;
        }
