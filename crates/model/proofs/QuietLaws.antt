-- "Look, pixel and peek change nothing", and the judge "writes nothing" (02, A.2); the trap switch set where it is off changes nothing, unless it is turned
-- on (02, A.7).
use mathlib.Core.Path.{◌≡◌, refl, sym, ap, ◌∙◌}
use mathlib.Core.Logic.{◌≢◌}
use mathlib.Core.Bool.{false}
use mathlib.Core.List.{List, [], ◌∷◌, ◌++◌}
use Prim.Native.Nat.{ℕ, zero, suc}
use borrow.Author.Tests.{ne_eqb}
use lib.Dec.{eqb}
use lib.ListN.{get_or, set, take, drop, take-append-drop}
use Rattle.model.specs.Numbers.{status_running, status_trapped}
use Rattle.model.specs.Record.{Pane, no_pane, with_status, with_switch}
use Rattle.model.specs.Calls.{State, on, Call, look, pixel, peek, judge, switch, Answer, outcome, part, in_part, row_of, record_of, store_of, switched}
use Rattle.model.specs.Calls.{on_pane, with_pane, accepted, refusal, refused, exec}
use Rattle.model.specs.Replies.{Response, accepted_with}
use Rattle.model.proofs.Decisions.{and_false, cond_false, cond_ind}

set_same : (l : List Pane) (k : ℕ) → set l k (get_or l k no_pane) ≡ l
set_same [] k = refl
set_same (p ∷ l) zero = refl
set_same (p ∷ l) (suc k) = ap {B = List Pane} (λ r. p ∷ r) (set_same l k)

pub in_part_part : (l : List ℕ) (at n : ℕ) → in_part l at n (part l at n) ≡ l
unfolding in_part part
in_part_part l at n = ap {B = List ℕ} (λ r. take at l ++ r) (take-append-drop n (drop at l)) ∙ take-append-drop at l

-- an outcome that keeps the pane's record, the screen and the store leaves the console as it was
keeps : (s : State) (k : ℕ) (a : Response) → (with_pane s k (outcome a (record_of s k) s.screen (store_of s k))).state ≡ s
unfolding with_pane record_of store_of
keeps s k a = λ i. record {
  console = record { geometry = s.console.geometry; count = s.console.count; rows = s.console.rows; panes = set_same s.console.panes k i };
  screen = s.screen;
  stores = in_part_part s.stores (row_of s k).start (row_of s k).len i;
}

-- the calls that only tell
pub data Quiet : Call → Type 0 where
  looks : Quiet look
  sees : (x y : ℕ) → Quiet (pixel x y)
  peeks : (a : ℕ) → Quiet (peek a)
  judges : (a : ℕ) → Quiet (judge a)

accepted_quiet : (s : State) (k : ℕ) (c : Call) → Quiet c → (accepted s (on k c)).state ≡ s
unfolding accepted on_pane
accepted_quiet s k c looks = keeps s k _
accepted_quiet s k c (sees x y) = keeps s k _
accepted_quiet s k c (peeks a) = keeps s k _
accepted_quiet s k c (judges a) = keeps s k _

-- refused, it leaves the console too
exec_kept : (s : State) (k : ℕ) (c : Call) → (accepted s (on k c)).state ≡ s → (exec s (on k c)).state ≡ s
unfolding exec
exec_kept s k c h = cond_ind (λ (a : Answer). a.state ≡ s) (eqb (refusal s (on k c)) 0) (accepted s (on k c)) (refused s (refusal s (on k c)))
    (λ e. h) (λ e. refl)

pub exec_quiet : (s : State) (k : ℕ) (c : Call) → Quiet c → (exec s (on k c)).state ≡ s
exec_quiet s k c q = exec_kept s k c (accepted_quiet s k c q)

-- ## The switch where it is off

module _ (v : ℕ) (n : v ≢ 1) where
  switched_off : (p : Pane) → p.flags.switch ≡ false → eqb p.progress.status status_trapped ≡ false → switched p v ≡ p
  unfolding switched
  switched_off p o t = λ i. with_status (with_switch p ((ne_eqb v 1 n ∙ sym o) i))
      (cond_false status_running p.progress.status (and_false (eqb v 0) (eqb p.progress.status status_trapped) t) i)

  pub exec_switched : (s : State) (k : ℕ) → (record_of s k).flags.switch ≡ false → eqb (record_of s k).progress.status status_trapped ≡ false
      → (exec s (on k (switch v))).state ≡ s
  unfolding accepted on_pane
  exec_switched s k o t = exec_kept s k (switch v)
      (ap (λ (p : Pane). (with_pane s k (outcome (accepted_with []) p s.screen (store_of s k))).state) (switched_off (record_of s k) o t)
      ∙ keeps s k (accepted_with []))
