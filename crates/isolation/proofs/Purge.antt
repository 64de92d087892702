-- Whole lists: a list of calls shows the pane what the calls on it alone would show it. By induction on the list: a call on the pane goes the
-- same way in both (exec_own), any other leaves the pane's share alone (exec_other). So two lists with the same calls on the pane show it the same.
use mathlib.Core.Path.{◌≡◌, refl, sym, ap, ap₂, ◌∙◌}
use mathlib.Core.Bool.{true, false}
use mathlib.Core.List.{List, [], ◌∷◌}
use Prim.Native.Nat.{ℕ}
use lib.Dec.{eqb}
use borrow.Author.Tests.{eqb-true, eqb-false}
use Rattle.model.specs.declared.Geometry.{Geometry}
use Rattle.model.specs.declared.Row.{Row}
use Rattle.model.specs.Replies.{Response}
use Rattle.model.specs.Calls.{State, Request, exec}
use Rattle.model.proofs.Decisions.{split}
use Rattle.isolation.specs.TwoRuns.{after, calls_on, replies_on}
use Rattle.isolation.proofs.States.{Share, share_of, On}
use Rattle.isolation.proofs.Frame.{exec_on, exec_other}
use Rattle.isolation.proofs.Agreement.{Told, told_by, exec_own}

-- what a list of calls shows a pane: the replies to its own calls, and its share of what is left
pub record Account : Type 0 where
  pub replies : List Response
  pub share : Share

with_reply : Response → Account → Account
with_reply x a = record { replies = x ∷ a.replies; share = a.share }

module _ (g : Geometry) (k : ℕ) (r : Row) where
  unfoldable pub account : State → List Request → Account
  account s cs = record { replies = replies_on k s cs; share = share_of g k r (after s cs) }

  account_own : (s : State) (c : Request) (cs : List Request) → eqb c.number k ≡ true → account s (c ∷ cs)
      ≡ with_reply (exec s c).reply (account (exec s c).state cs)
  unfolding account with_reply replies_on after
  account_own s c cs e = rw e

  account_other : (s : State) (c : Request) (cs : List Request) → eqb c.number k ≡ false → account s (c ∷ cs) ≡ account (exec s c).state cs
  unfolding account replies_on after
  account_other s c cs e = rw e

  calls_on_own : (c : Request) (cs : List Request) → eqb c.number k ≡ true → calls_on k (c ∷ cs) ≡ c ∷ calls_on k cs
  unfolding calls_on
  calls_on_own c cs e = rw e

  calls_on_other : (c : Request) (cs : List Request) → eqb c.number k ≡ false → calls_on k (c ∷ cs) ≡ calls_on k cs
  unfolding calls_on
  calls_on_other c cs e = rw e

  -- one step of the induction, for a call on the pane and for another
  purge_own : (c : Request) (cs : List Request) (s t : State) → eqb c.number k ≡ true → (exec s c).reply ≡ (exec t c).reply
      → account (exec s c).state cs ≡ account (exec t c).state (calls_on k cs) → account s (c ∷ cs) ≡ account t (calls_on k (c ∷ cs))
  purge_own c cs s t e a w =
      account_own s c cs e ∙ ap₂ with_reply a w ∙ sym (ap (account t) (calls_on_own c cs e) ∙ account_own t c (calls_on k cs) e)

  purge_other : (c : Request) (cs : List Request) (s t : State) → eqb c.number k ≡ false
      → account (exec s c).state cs ≡ account t (calls_on k cs) → account s (c ∷ cs) ≡ account t (calls_on k (c ∷ cs))
  purge_other c cs s t e w = account_other s c cs e ∙ w ∙ sym (ap (account t) (calls_on_other c cs e))

  pub purge : (cs : List Request) (s t : State) → On g k r s → On g k r t → share_of g k r s ≡ share_of g k r t → account s cs ≡ account t (calls_on k cs)
  unfolding account calls_on replies_on after told_by
  purge [] s t o q v = ap (λ (z : Share). record { replies = []; share = z }) v
  purge (c ∷ cs) s t o q v = split (eqb c.number k)
      (λ e. let w = exec_own g k r s t o q v c (eqb-true c.number k e) in
      purge_own c cs s t e (ap (λ (z : Told). z.reply) w)
      (purge cs (exec s c).state (exec t c).state (exec_on g k r s o c) (exec_on g k r t q c) (ap (λ (z : Told). z.share) w)))
      (λ e. purge_other c cs s t e
      (purge cs (exec s c).state t (exec_on g k r s o c) q (exec_other g k r s o c (eqb-false c.number k e) ∙ v)))

  pub same_account : (s t : State) (cs ds : List Request) → On g k r s → On g k r t → share_of g k r s ≡ share_of g k r t → calls_on k cs ≡ calls_on k ds
      → account s cs ≡ account t ds
  same_account s t cs ds o q v e = purge cs s s o o refl ∙ ap (account s) e ∙ sym (purge ds t s q o (sym v))
