-- A call on the pane: two states that agree on the pane give it the same reply and are left in agreement.
-- The refusal depends on the pane's row and record alone; the work on the pane sees only its share (model's on_pane_agree).
use mathlib.Core.Path.{◌≡◌, sym, ap, ◌∙◌, subst}
use mathlib.Core.Bool.{cond}
use Prim.Native.Nat.{ℕ}
use native.Mathlib.Decide.{ℕ_discrete}
use borrow.Author.Tests.{lt-leb}
use Rattle.model.specs.declared.Geometry.{Geometry}
use Rattle.model.specs.declared.Row.{Row}
use Rattle.model.specs.declared.Pane.{Pane}
use Rattle.model.specs.Replies.{Response, refused_with}
use Rattle.model.specs.Ranges.{or_else}
use Rattle.model.specs.Numbers.{refuse_record}
use Rattle.model.specs.Bitmaps.{pane_surface, pixels}
use Rattle.model.specs.Setup.{pane_bad}
use Rattle.model.specs.Calls.{State, Call, Request, on, Answer, Outcome, row_of, record_of, store_of, part, own_refusal, setup_refusal, call_checks, refusal}
use Rattle.model.specs.Calls.{with_pane, on_pane, accepted, exec}
use Rattle.model.proofs.CallLaws.{on_pane_agree, exec_accepted, exec_refused}
use Rattle.isolation.proofs.States.{Share, share_of, On, on_fits}
use Rattle.isolation.proofs.Frame.{taken, outcome_of, accepted_record, accepted_store}

-- what the pane gets of an answer: the reply, and its share of what is left
pub record Told : Type 0 where
  pub reply : Response
  pub share : Share

module _ (g : Geometry) (k : ℕ) (r : Row) where
  unfoldable pub told_by : Answer → Told
  told_by a = record { reply = a.reply; share = share_of g k r a.state }

  -- ## The refusal

  own_number : Pane → Call → ℕ
  own_number p x = or_else (cond (pane_bad g r p) refuse_record 0) (own_refusal r p x)

  refusal_on : (s : State) → On g k r s → (x : Call) → refusal s (on k x) ≡ own_number (record_of s k) x
  unfolding refusal call_checks setup_refusal row_of record_of own_number
  refusal_on s o x = rw (o.consistent.check, lt-leb s.console.count k o.here, o.row, o.geometry)

  -- ## The work

  -- done on the pane's share
  outcome_in : State → Call → Outcome
  outcome_in s x = on_pane g r (record_of s k) s.screen (part s.stores r.start r.len) x

  told : Outcome → Told
  told o = record { reply = o.reply; share = record { shown = pixels (pane_surface g r) o.screen; store = o.store; pane = o.pane } }

  outcome_on : (s : State) → On g k r s → (x : Call) → outcome_of s (on k x) ≡ outcome_in s x
  unfolding outcome_of outcome_in store_of
  outcome_on s o x = rw (o.row, o.geometry)

  accepted_told : (s : State) → On g k r s → (x : Call) → refusal s (on k x) ≡ 0 → told_by (accepted s (on k x)) ≡ told (outcome_in s x)
  unfolding told_by told share_of accepted with_pane outcome_of
  accepted_told s o x e =
      (λ i. record { reply = out.reply; share = record { shown = pixels (pane_surface g r) out.screen; store = store i; pane = pane i } })
      ∙ ap told (outcome_on s o x)
    where
      out : Outcome
      out = outcome_of s (on k x)

      store : part (accepted s (on k x)).state.stores r.start r.len ≡ out.store
      store =
          ap (λ (z : Row). part (accepted s (on k x)).state.stores z.start z.len) (sym o.row)
          ∙ accepted_store s o.consistent (on k x) (taken s (on k x) e)

      pane : record_of (accepted s (on k x)).state k ≡ out.pane
      pane = accepted_record s o.consistent (on k x) (taken s (on k x) e)

  -- ## Both

  module _ (s t : State) (o : On g k r s) (q : On g k r t) (v : share_of g k r s ≡ share_of g k r t) (x : Call) where
    shown : pixels (pane_surface g r) s.screen ≡ pixels (pane_surface g r) t.screen
    unfolding share_of
    shown = ap (λ (z : Share). z.shown) v

    store : part s.stores r.start r.len ≡ part t.stores r.start r.len
    unfolding share_of
    store = ap (λ (z : Share). z.store) v

    pane : record_of s k ≡ record_of t k
    unfolding share_of
    pane = ap (λ (z : Share). z.pane) v

    same_refusal : refusal s (on k x) ≡ refusal t (on k x)
    same_refusal = refusal_on s o x ∙ ap (λ (p : Pane). own_number p x) pane ∙ sym (refusal_on t q x)

    same_work : told (outcome_in s x) ≡ told (outcome_in t x)
    unfolding told outcome_in
    same_work =
        let w = on_pane_agree g r (record_of s k) s.screen t.screen (part s.stores r.start r.len) (on_fits g k r s o) (on_fits g k r t q) shown
        x in
        (λ i. record { reply = w.reply i; share = record { shown = w.shown i; store = w.store i; pane = w.pane i } })
        ∙ (λ i. told (on_pane g r (pane i) t.screen (store i) x))

    same_told : told_by (exec s (on k x)) ≡ told_by (exec t (on k x))
    unfolding told_by
    same_told = go (ℕ_discrete (refusal s (on k x)) 0)
      where
        go : Dec (refusal s (on k x) ≡ 0) → told_by (exec s (on k x)) ≡ told_by (exec t (on k x))
        go (yes e) =
            ap told_by (exec_accepted s (on k x) e) ∙ accepted_told s o x e ∙ same_work
            ∙ sym (ap told_by (exec_accepted t (on k x) (sym same_refusal ∙ e)) ∙ accepted_told t q x (sym same_refusal ∙ e))
        go (no e) =
            ap told_by (exec_refused s (on k x) e) ∙ (λ i. record { reply = refused_with (same_refusal i); share = v i })
            ∙ sym (ap told_by (exec_refused t (on k x) (λ z. e (same_refusal ∙ z))))

  pub exec_own : (s t : State) → On g k r s → On g k r t → share_of g k r s ≡ share_of g k r t → (c : Request) → c.number ≡ k → told_by (exec s c)
      ≡ told_by (exec t c)
  exec_own s t o q v c e = subst (λ (z : Request). told_by (exec s z) ≡ told_by (exec t z)) (λ i. on (sym e i) c.call) (same_told s t o q v c.call)
