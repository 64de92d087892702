-- What a step leaves, and the bytes in use of a buffer, which are lent to a call and come back.
use mathlib.Core.Path.{◌≡◌, sym, ap, ◌∙◌}
use mathlib.Core.List.{List, ◌++◌}
use Prim.Native.Nat.{ℕ, ◌≤◌, min}
use native.Mathlib.Nat.{min-eq_left, min-eq_right}
use native.Mathlib.Omega.{arith}
use lib.Dec.{leb}
use lib.ListN.{length, take, drop, drop_of_length-le}
use lib.Seq.{length-take-le, take_all}
use borrow.Author.Tests.{leb-true, leb-false}
use Rattle.io.specs.Counts.{IsPrefixLen}
use Rattle.model.specs.Replies.{Response, response}
use Rattle.model.specs.Calls.{State, Answer}
use Rattle.model.proofs.Decisions.{split}
use Rattle.call_common.specs.Answers.{CallAnswered, state, answer}
use Rattle.script_session.specs.declared.Session.{Session}
use Rattle.script_session.specs.declared.LineAnswer.{LineAnswer}
use Rattle.script_session.specs.declared.LineAnswer.TheVariants as answers
use Rattle.script_session.specs.declared.LineStep.{LineStep}
use Rattle.script_session.specs.SessionState.{Reaction, session_state, reaction, line_step, outcome_of, reaction_of, with_console}
use Rattle.script_session.specs.SessionState.{in_use, call_made, whole_buffers}

-- ## The bytes in use of a buffer

module _ (n : ℕ) (l : List ℕ) where
  -- a number of bytes at the start of a buffer
  pub counts : n ≤ length l → IsPrefixLen n l
  counts h = (h, sym (length-take-le n l h))

  -- a number that is no more than the buffer has
  module _ {k : ℕ} (e : k ≡ min n (length l)) where
    counted : (f : ℕ → List ℕ) → (length l ≤ n → f (length l) ≡ f n) → f k ≡ f n
    counted f past =
        split
        (leb n (length l))
        (λ t. rw (e, min-eq_left (leb-true n (length l) t)))
        (λ t. let h : length l ≤ n = omega (arith, leb-false n (length l) t) in rw (e, min-eq_right h) (past h))

    -- counts the same bytes
    pub take_counted : take k l ≡ take n l
    take_counted = counted (λ i. take i l) (λ h. rw (take_all (length l) l (omega arith), take_all n l h))

    -- and leaves the same
    pub drop_counted : drop k l ≡ drop n l
    drop_counted =
        counted (λ i. drop i l) (λ h. rw (drop_of_length-le l {i = length l} (omega arith), drop_of_length-le l {i = n} h))

-- ## Steps

-- what a step leaves, by what it is
pub reaction_of_step :
    {r : LineStep} {s : Session} {a : LineAnswer} →
    r ≡ line_step s a →
    (screen stores : List ℕ) →
    reaction_of r screen stores ≡ reaction (session_state s screen stores) (outcome_of a)
reaction_of_step e screen stores = ap (λ (r : LineStep). reaction_of r screen stores) e

-- a call was made on the bytes in use, and the session may follow from its reply
module _ (after : Response → Session) (letter : ℕ) (call : State → Answer) (s : Session) (screen stores : List ℕ) where
  -- what the definition has for it
  abbrev pub call_reaction : Reaction
  call_reaction =
      let d = session_state s screen stores in
      let a = call (in_use d) in
      whole_buffers d (call_made (after a.reply) letter a)

  pub call_made_lem :
      {k m : ℕ} {r : LineStep} {b : CallAnswered} {rows bytes : List ℕ} →
      k ≡ min s.screen (length screen) →
      m ≡ min s.stores (length stores) →
      r ≡ line_step (with_console (after (response b.reply)) b.console) (answers.Replied letter b.reply) →
      answer b rows bytes ≡ call (state s.console (take k screen) (take m stores)) →
      reaction_of r (rows ++ drop k screen) (bytes ++ drop m stores) ≡ call_reaction
  unfolding whole_buffers call_made
  call_made_lem p q e a =
      let made = rw (take_counted s.screen screen p, take_counted s.stores stores q) at a in
      rw (drop_counted s.screen screen p, drop_counted s.stores stores q)
      (reaction_of_step e _ _ ∙ ap (λ (x : Answer). whole_buffers (session_state s screen stores) (call_made (after x.reply) letter x)) made)
