-- What the judge's reply holds of runs (02, A.2), over whole lists of calls and over exec, the definition that
-- every call's contract cites: ""Clean" means that runs of any budgets from there, with no set-up, put, start or
-- clear between, never fault, and reach status 2 once the budgets add to more than the commands walked.
-- Otherwise the accepted reply names the first fault the run would meet and its address. It writes nothing."
-- "The judge's "clean" is meant with the switch off" (02, A.7): `begun` leaves it off, for clear makes the record
-- fresh, and no call between turns it on.
use Rattle.std.specs.Prelude.{◌≡◌, ◌≢◌, cond, List, [], ◌∷◌, ℕ, ◌+◌, ◌≤◌, ◌<◌, eqb, length, get_or}
use Rattle.model.specs.declared.Ran.{Ran}
use Rattle.model.specs.declared.Progress.{Progress}
use Rattle.model.specs.Numbers.{status_running, status_ended, status_faulted, fault_barred, fault_long}
use Rattle.model.specs.Replies.{Response, refused_with, accepted_with, ran_values}
use Rattle.model.specs.Replies.{Verdict, Clean, Found, verdict_values}
use Rattle.model.specs.Judge.{most_walked}
use Rattle.model.specs.Calls.{State, Call, put, start, run, look, pixel, peek, clear, judge, switch, Request, on}
use Rattle.model.specs.Calls.{refusal, record_of, exec}
use Rattle.isolation.specs.TwoRuns.{after}

-- ## Lists of calls

-- "with no set-up, put, start or clear between", and "with the switch off" (02, A.7): what a call on the pane may
-- be. Calls on other panes may be any, and a set-up is no call of such a list
abbrev pub Between : Call → Type 0
Between (put a bytes) = ⊥
Between (start a) = ⊥
Between (run budget) = Unit {0}
Between look = Unit {0}
Between (pixel x y) = Unit {0}
Between (peek a) = Unit {0}
Between clear = ⊥
Between (judge a) = Unit {0}
-- 1 alone turns the switch on: 0 leaves it off, and all else is refused
Between (switch v) = v ≢ 1

abbrev pub AllBetween : ℕ → List Request → Type 0
AllBetween k [] = Unit {0}
AllBetween k (c ∷ cs) = (c.number ≡ k → Between c.call) × AllBetween k cs

-- "the budgets": those of the pane's runs, added, refused runs included
abbrev pub budget : Call → ℕ
budget (put a bytes) = 0
budget (start a) = 0
budget (run n) = n
budget look = 0
budget (pixel x y) = 0
budget (peek a) = 0
budget clear = 0
budget (judge a) = 0
budget (switch v) = 0

unfoldable pub budgets : ℕ → List Request → ℕ
budgets k [] = 0
budgets k (c ∷ cs) = cond (eqb c.number k) (budget c.call) 0 + budgets k cs

-- "from there, .. as from a cleared pane": pane k cleared, and started at the address
abbrev pub begun : State → ℕ → ℕ → State
begun s k a = (exec (exec s (on k clear)).state (on k (start a))).state

-- how far pane k has come after a list of calls
abbrev pub progress_after : State → ℕ → List Request → Progress
progress_after s k cs = (record_of (after s cs) k).progress

-- a reply to run: a refusal, or values of which this holds
pub data RunReply (P : Ran → Type 0) : Response → Type 0 where
  refused : (n : ℕ) → RunReply P (refused_with n)
  ran : (x : Ran) → P x → RunReply P (accepted_with (ran_values x))

-- the reply to a run of pane k after a list of calls
abbrev pub ran_after : State → ℕ → List Request → ℕ → Response
ran_after s k cs m = (exec (after s cs) (on k (run m))).reply

-- what the types of the code give of a record and a buffer that are lent: eight pane records, and bytes
pub record Lent (s : State) : Type 0 where
  pub records : length s.console.panes ≡ 8
  pub bytes : (i : ℕ) → get_or s.stores i 0 < 256

-- ## A clean list, n commands long

pub record CleanRuns (s : State) (k n : ℕ) (cs : List Request) : Type 0 where
  -- "runs of any budgets .. never fault"
  pub never : (progress_after s k cs).status ≢ status_faulted
  pub replies : (m : ℕ) → RunReply (λ x. x.status ≢ status_faulted) (ran_after s k cs m)
  -- "and reach status 2 once the budgets add to more than the commands walked", and not before
  pub ends : n < budgets k cs → (progress_after s k cs).status ≡ status_ended
  pub running : budgets k cs ≤ n → (progress_after s k cs).status ≡ status_running

-- ## A list that faults after n commands

pub record FoundRuns (s : State) (k f a n : ℕ) (cs : List Request) : Type 0 where
  -- "the first fault the run would meet and its address": runs that reach it meet it, and nothing is met before
  pub met : n < budgets k cs → progress_after s k cs ≡ record { status = status_faulted; fault = f; pointer = a }
  pub running : budgets k cs ≤ n → (progress_after s k cs).status ≡ status_running
  -- no run answers another fault, or an end
  pub replies : (m : ℕ) → RunReply (λ x. (x.status ≢ status_ended) × (x.status ≡ status_faulted → x.fault ≡ f))
      (ran_after s k cs m)

-- .. for some number of commands that the judge walks, the same for every list of calls
pub record Foretold (s : State) (k f a : ℕ) : Type 0 where
  pub commands : ℕ
  pub walked : commands < most_walked
  pub runs : (cs : List Request) → AllBetween k cs → FoundRuns s k f a commands cs

-- ## The claim

-- pane k's list at an address is judged so
abbrev pub JudgedAs : State → ℕ → ℕ → Verdict → Type 0
JudgedAs s k a v = (exec s (on k (judge a))).reply ≡ accepted_with (verdict_values v)

pub record Verdicts : Type 0 where
  -- "refused as start refuses it"
  pub refusals : (s : State) (k a : ℕ) → refusal s (on k (judge a)) ≡ refusal s (on k (start a))
  -- "It writes nothing."
  pub kept : (s : State) (k a : ℕ) → (exec s (on k (judge a))).state ≡ s
  pub clean : (s : State) (k a n : ℕ) → Lent s → JudgedAs s k a (Clean n) → (cs : List Request) → AllBetween k cs
      → CleanRuns (begun s k a) k n cs
  -- 31 and 32 are the judge's own, no fault that a run meets
  pub found : (s : State) (k a f at : ℕ) → Lent s → JudgedAs s k a (Found f at) → f ≢ fault_barred → f ≢ fault_long
      → Foretold (begun s k a) k f at
