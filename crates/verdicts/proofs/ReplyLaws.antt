-- What the judge's reply says: the call was not refused, and the walk from a pane that is cleared and started at the address gives that verdict.
use mathlib.Core.Path.{◌≡◌, refl, sym, ap, ◌∙◌}
use Prim.Native.Nat.{ℕ, ◌-◌}
use borrow.Author.Tests.{eqb-true, eqb-false}
use lib.Dec.{eqb}
use Rattle.model.specs.Replies.{Verdict, Clean, Found, refused_with, accepted_with, verdict_values}
use Rattle.model.specs.Record.{fresh}
use Rattle.model.specs.Judge.{most_walked, tallied, list_walk, verdict_of}
use Rattle.model.specs.Calls.{State, judge, on, Answer, started, refusal, row_of, store_of, on_pane, with_pane, accepted}
use Rattle.model.proofs.Decisions.{split}
use Rattle.model.proofs.CallLaws.{exec_accepted, exec_refused}
use Rattle.verdicts.specs.Verdicts.{JudgedAs}

-- ## Values and verdicts

values_same : (u v : Verdict) → accepted_with (verdict_values u) ≡ accepted_with (verdict_values v) → u ≡ v
values_same (Clean m) (Clean n) e = cc
values_same (Clean m) (Found f a) e = cc
values_same (Found f a) (Clean n) e = cc
values_same (Found f a) (Found h b) e = cc

-- a clean walk that leaves a rest, with the number that is tallied
pub record CleanWith (u : Verdict) (n : ℕ) : Type 0 where
  pub rest : ℕ
  pub same : u ≡ Clean rest
  pub count : most_walked - rest ≡ n

tallied_clean : (u : Verdict) (n : ℕ) → tallied u ≡ Clean n → CleanWith u n
tallied_clean (Clean rest) n e = record { rest = rest; same = refl; count = cc }
tallied_clean (Found f a) n e = cc

tallied_found : (u : Verdict) (f a : ℕ) → tallied u ≡ Found f a → u ≡ Found f a
tallied_found (Clean rest) f a e = cc
tallied_found (Found b c) f a e = e

-- ## The reply

module _ (s : State) (k a : ℕ) where
  pub judged_open : (v : Verdict) → JudgedAs s k a v → refusal s (on k (judge a)) ≡ 0
  judged_open v j = split (eqb (refusal s (on k (judge a))) 0) (eqb-true (refusal s (on k (judge a))) 0) λ t.
      let d = exec_refused s (on k (judge a)) (eqb-false (refusal s (on k (judge a))) 0 t) in
      let n : refused_with (refusal s (on k (judge a))) ≡ accepted_with (verdict_values v) = sym (ap (λ (x : Answer). x.reply) d) ∙ j in
      cc

  -- the walk
  abbrev pub walk_of : Verdict
  walk_of = list_walk s.console.geometry (row_of s k) (store_of s k) most_walked (started fresh a)

  judged_walk : (v : Verdict) → JudgedAs s k a v → tallied walk_of ≡ v
  unfolding accepted with_pane on_pane verdict_of
  judged_walk v j =
      values_same (tallied walk_of) v (sym (ap (λ (x : Answer). x.reply) (exec_accepted s (on k (judge a)) (judged_open v j))) ∙ j)

  pub judged_clean : (n : ℕ) → JudgedAs s k a (Clean n) → CleanWith walk_of n
  judged_clean n j = tallied_clean walk_of n (judged_walk (Clean n) j)

  pub judged_found : (f at : ℕ) → JudgedAs s k a (Found f at) → walk_of ≡ Found f at
  judged_found f at j = tallied_found walk_of f at (judged_walk (Found f at) j)
