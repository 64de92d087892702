-- What `exec` answers to a call on a pane: refused at admission, refused by the call's own check, or
-- accepted; and what an accepted call leaves that replaces the record, the store, or nothing.
use mathlib.Core.Path.{◌≡◌, refl, sym, ap, ap₂, ◌∙◌}
use mathlib.Core.List.{List, [], ◌∷◌}
use Prim.Native.Nat.{ℕ, ◌+◌, ◌-◌, ◌≤◌}
use native.Mathlib.Nat.{add-sub_cancel_left}
use lib.ListN.{length}
use lib.Seq.{set-get_or}
use borrow.Author.Tests.{eq-eqb, ne_eqb, eqb-false}
use Rattle.model.specs.declared.Console.{Console}
use Rattle.model.specs.declared.Pane.{Pane}
use Rattle.model.specs.declared.Reply.{Reply}
use Rattle.model.specs.declared.Reply.TheVariants as reply
use Rattle.std.specs.Prelude.{Ok}
use Rattle.model.specs.declared.Refusal.{Refusal}
use Rattle.model.specs.Numbers.{refusal_number}
use Rattle.model.proofs.NumberLaws.{refusal_some}
use Rattle.model.specs.declared.Row.{Row}
use Rattle.model.specs.Record.{no_pane}
use Rattle.model.specs.Setup.{pane_at}
use Rattle.model.specs.Replies.{Response, accepted_with, natural, response}
use Rattle.model.specs.Calls.{State, Call, on, part, in_part, Outcome, outcome, on_pane, row_of, record_of, store_of, with_pane}
use Rattle.model.specs.Calls.{own_refusal, setup_refusal, call_refusal, refusal, accepted, refused, exec, set_up}
use Rattle.model.proofs.Decisions.{cond_true, cond_false}
use Rattle.model.proofs.QuietLaws.{in_part_part}
use Rattle.model.proofs.PartLaws.{length_part}
use Rattle.model.proofs.CallLaws as calls
use Rattle.call_common.specs.declared.Admission.{Admission}
use Rattle.call_common.specs.Admissions.{Granted}
use Rattle.call_common.specs.Answers.{state, CallAnswered, answer, unchanged, turned_away, with_record, replaced}

-- ## Refused

-- no refusal has the number 0
refused_some : (f : Refusal) → refusal_number f ≡ 0 → ⊥
refused_some f = eqb-false (refusal_number f) 0 (refusal_some f)

-- the answer of a call that was turned away
turned_away_lem : (s : State) (f : Refusal) {r : CallAnswered} → r ≡ turned_away s.console f → answer r s.screen s.stores ≡ refused s (refusal_number f)
turned_away_lem s f e = ap (λ (r : CallAnswered). answer r s.screen s.stores) e

pub set_up_refused : (s : State) {f : Refusal} {r : CallAnswered} → r ≡ turned_away s.console f → refusal_number f ≡ setup_refusal s
    → answer r s.screen s.stores ≡ set_up s
unfolding set_up
set_up_refused s {f} e q =
    turned_away_lem s f e ∙ ap (refused s) q ∙ sym (cond_false _ _ (ne_eqb (setup_refusal s) 0 (λ z. refused_some f (q ∙ z))))

-- ## The pane's part of the stores

-- as a call lends it on: from the row's start up to its start plus its length
abbrev pub store_part : List ℕ → Row → List ℕ
store_part stores r = part stores r.start (r.start + r.len - r.start)

-- the stores with another part in its place
abbrev pub with_store : List ℕ → Row → List ℕ → List ℕ
with_store stores r store = in_part stores r.start (r.start + r.len - r.start) store

-- it lies in the stores
pub store_room : {c : Console} {screen stores number : ℕ} {a : Admission} → Granted c screen stores number a → a.row.start + a.row.len ≤ stores
store_room g = rw g.row g.admitted.room

pub length_store_part : {c : Console} {screen number : ℕ} {a : Admission} (stores : List ℕ) → Granted c screen (length stores) number a
    → length (store_part stores a.row) ≡ a.row.len
length_store_part {a = a} stores g = rw add-sub_cancel_left (length_part stores a.row.start a.row.len (store_room g))

-- ## A call on a pane

-- what a call makes of the pane that was admitted
abbrev pub on_admitted : State → Admission → Call → Outcome
on_admitted s a call = on_pane s.console.geometry a.row a.pane s.screen (store_part s.stores a.row) call

record_kept : (s : State) (number : ℕ) {p : Pane} → p ≡ pane_at s.console.panes number → s.console ≡ with_record s.console number p
record_kept s number e = rw (e, set-get_or s.console.panes number no_pane)

store_kept : (s : State) (a : Admission) → s.stores ≡ with_store s.stores a.row (store_part s.stores a.row)
store_kept s a = sym (in_part_part s.stores a.row.start (a.row.start + a.row.len - a.row.start))

module _ (s : State) (number : ℕ) (call : Call) where
  exec_refusal : {f : Refusal} {r : CallAnswered} → refusal_number f ≡ refusal s (on number call) → r ≡ turned_away s.console f
      → answer r s.screen s.stores ≡ exec s (on number call)
  exec_refusal {f} q e = turned_away_lem s f e ∙ ap (refused s) q ∙ sym (calls.exec_refused s (on number call) (λ z. refused_some f (q ∙ z)))

  -- refused at admission
  pub exec_refused : {f : Refusal} {r : CallAnswered} → refusal_number f ≡ call_refusal s number → r ≡ turned_away s.console f
      → answer r s.screen s.stores ≡ exec s (on number call)
  unfolding refusal
  exec_refused {f} h e = exec_refusal (h ∙ sym (cond_false _ _ (ne_eqb (call_refusal s number) 0 (λ z. refused_some f (h ∙ z))))) e

  module _ {a : Admission} (g : Granted s.console (length s.screen) (length s.stores) number a) where
    own_refusal_lem : {n : ℕ} → n ≡ own_refusal a.row a.pane call → n ≡ refusal s (on number call)
    unfolding refusal row_of record_of
    own_refusal_lem own =
        own ∙ ap₂ (λ (r : Row) (p : Pane). own_refusal r p call) g.row g.pane
        ∙ sym (cond_true _ _ (eq-eqb (call_refusal s number) 0 g.clear))

    -- refused by the call's own check
    pub exec_refused_own : {f : Refusal} {r : CallAnswered} → refusal_number f ≡ own_refusal a.row a.pane call → r ≡ turned_away s.console f
        → answer r s.screen s.stores ≡ exec s (on number call)
    exec_refused_own own = exec_refusal (own_refusal_lem own)

    module _ (own : 0 ≡ own_refusal a.row a.pane call) where
      -- accepted, by what the call makes of the pane
      pub exec_accepted : {o : Outcome} → on_admitted s a call ≡ o → (b : CallAnswered) {screen stores : List ℕ}
          → b.console ≡ with_record s.console number o.pane → response b.reply ≡ o.reply
          → screen ≡ o.screen → stores ≡ with_store s.stores a.row o.store
          → answer b screen stores ≡ exec s (on number call)
      unfolding accepted with_pane row_of record_of store_of
      exec_accepted {o} e b p q u v =
          let r = g.row in
          let v' = rw (add-sub_cancel_left, r) at v in
          (λ i. record { reply = q i; state = state (p i) (u i) (v' i) })
          ∙ ap (with_pane s number) (sym (rw (add-sub_cancel_left, r, g.pane) at e))
          ∙ sym (calls.exec_accepted s (on number call) (sym (own_refusal_lem own)))

      -- another record, all else kept
      pub exec_record : {p : Pane} (t : Reply) → on_admitted s a call ≡ outcome (response (Ok t)) p s.screen (store_part s.stores a.row)
          → {b : CallAnswered} {q : Pane} → b ≡ replaced s.console number q (Ok t) → q ≡ p
          → answer b s.screen s.stores ≡ exec s (on number call)
      exec_record t e {b} i j =
          exec_accepted e b (ap (λ (b : CallAnswered). b.console) i ∙ ap (with_record s.console number) j)
          (ap (λ (b : CallAnswered). response b.reply) i) refl (store_kept s a)

      -- another store, all else kept
      pub exec_store : {store : List ℕ} (t : Reply) → on_admitted s a call ≡ outcome (response (Ok t)) a.pane s.screen store
          → {new : List ℕ} → new ≡ store
          → answer (unchanged s.console (Ok t)) s.screen (with_store s.stores a.row new) ≡ exec s (on number call)
      exec_store t e q =
          exec_accepted e (unchanged s.console (Ok t)) (record_kept s number g.pane) refl refl (ap (with_store s.stores a.row) q)

      -- values, all kept
      pub exec_kept : {t : Response} → on_admitted s a call ≡ outcome t a.pane s.screen (store_part s.stores a.row)
          → (b : Reply) → response (Ok b) ≡ t
          → answer (unchanged s.console (Ok b)) s.screen s.stores ≡ exec s (on number call)
      exec_kept e b q = exec_accepted e (unchanged s.console (Ok b)) (record_kept s number g.pane) q refl (store_kept s a)

      -- one number, all kept
      pub exec_value : {v : ℕ} → on_admitted s a call ≡ outcome (accepted_with (natural v ∷ [])) a.pane s.screen (store_part s.stores a.row)
          → {n : ℕ} → n ≡ v
          → answer (unchanged s.console (Ok (reply.Value n))) s.screen s.stores ≡ exec s (on number call)
      exec_value e {n} q = exec_kept e (reply.Value n) (ap (λ (n : ℕ). accepted_with (natural n ∷ [])) q)
