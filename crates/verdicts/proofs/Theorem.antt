-- The theorem: what the judge names is due on the pane that is cleared and started, and so it is after every list of calls between.
use mathlib.Core.Path.{◌≡◌, refl, sym, ap, subst}
use mathlib.Core.Logic.{◌≢◌}
use mathlib.Core.List.{List, [], ◌∷◌}
use Prim.Native.Nat.{ℕ, zero, suc, ◌+◌, ◌-◌, ◌≤◌, ◌<◌}
use native.Mathlib.Omega.{arith}
use lib.ListN.{get_or, take, drop}
use lib.Seq.{get_or-drop}
use Rattle.model.specs.declared.Geometry.{Geometry}
use Rattle.model.specs.declared.Row.{Row}
use Rattle.model.specs.declared.Pane.{Pane}
use Rattle.model.specs.declared.Progress.{Progress}
use Rattle.model.specs.Numbers.{status_running, status_ended, status_faulted, fault_barred, fault_long}
use Rattle.model.specs.Replies.{Verdict, Clean, Found}
use Rattle.model.specs.Record.{fresh}
use Rattle.model.specs.Judge.{most_walked}
use Rattle.model.specs.Calls.{State, start, clear, judge, Request, on, started, part, own_refusal, setup_refusal, call_checks, call_refusal, refusal, row_of}
use Rattle.model.specs.Calls.{record_of, store_of}
use Rattle.model.proofs.Decisions.{or_else_none}
use Rattle.model.proofs.QuietLaws.{judges, exec_quiet}
use Rattle.isolation.specs.TwoRuns.{after}
use Rattle.isolation.proofs.States.{On}
use Rattle.isolation.proofs.Frame.{pane_refusal, taken}
use Rattle.verdicts.specs.Verdicts.{AllBetween, budgets, begun, Lent, CleanRuns, FoundRuns, Foretold, JudgedAs, Verdicts}
use Rattle.verdicts.proofs.AheadLaws.{Walked, walked}
use Rattle.verdicts.proofs.DueLaws.{Reached, Due}
use Rattle.verdicts.proofs.DoneLaws.{Begun, exec_begun}
use Rattle.verdicts.proofs.BetweenLaws.{Pending, pending_after, run_reply}
use Rattle.verdicts.proofs.ReplyLaws.{CleanWith, judged_open, judged_clean, judged_found, walk_of}

-- ## What a verdict that is due says of a record

module _ (g : Geometry) (r : Row) (store : List ℕ) (p : Pane) where
  due_running : (v : Verdict) (n b : ℕ) → b ≤ n → Due g r store v (suc n - b) p → p.progress.status ≡ status_running
  due_running v n b l h = (rw (let e : suc n - b ≡ suc (n - b) = omega arith in e) at h).running

  due_reached : (v : Verdict) (n b : ℕ) → n < b → Due g r store v (suc n - b) p → Reached v p
  due_reached v n b l h = rw (let e : suc n - b ≡ 0 = omega arith in e) at h

  clean_unfaulted : (rest i : ℕ) → Due g r store (Clean rest) i p → p.progress.status ≢ status_faulted
  clean_unfaulted rest zero h e = omega arith
  clean_unfaulted rest (suc i) h e = omega (arith, h.running)

  found_alone : (f a i : ℕ) → Due g r store (Found f a) i p
      → (p.progress.status ≢ status_ended) × (p.progress.status ≡ status_faulted → p.progress.fault ≡ f)
  found_alone f a zero h =
      (λ e. let z : p.progress.status ≡ status_faulted = ap (λ (q : Progress). q.status) h in omega arith, λ e. ap (λ (q : Progress). q.fault) h)
  found_alone f a (suc i) h = (λ e. omega (arith, h.running), λ e. absurd (omega (arith, h.running)))

-- ## From the judge on

-- a part of bytes is bytes
take_bytes : (n : ℕ) (l : List ℕ) → ((i : ℕ) → get_or l i 0 < 256) → (i : ℕ) → get_or (take n l) i 0 < 256
take_bytes zero l h i = omega arith
take_bytes (suc n) [] h i = omega arith
take_bytes (suc n) (x ∷ l) h zero = h 0
take_bytes (suc n) (x ∷ l) h (suc i) = take_bytes n l (λ j. h (suc j)) i

module _ (s : State) (k a : ℕ) (lent : Lent s) where
  abbrev g : Geometry
  g = s.console.geometry

  abbrev r : Row
  r = row_of s k

  bytes : (i : ℕ) → get_or (store_of s k) i 0 < 256
  unfolding store_of part
  bytes = take_bytes r.len (drop r.start s.stores) (λ i. rw (get_or-drop r.start s.stores i 0) (lent.bytes (r.start + i)))

  -- the judge was not refused
  module _ (opens : refusal s (on k (judge a)) ≡ 0) where
    parts : (call_refusal s k ≡ 0) × (own_refusal r (record_of s k) (judge a) ≡ 0)
    unfolding refusal
    parts = or_else_none (call_refusal s k) (own_refusal r (record_of s k) (judge a)) opens

    here : On g k r s
    unfolding call_checks setup_refusal row_of record_of
    here = record {
      consistent = record { check = (or_else_none (setup_refusal s) (pane_refusal s k) parts.0).0; records = lent.records };
      here = (taken s (on k (judge a)) opens).here;
      geometry = refl;
      row = refl;
    }

    clears : refusal s (on k clear) ≡ 0
    unfolding refusal own_refusal
    clears = rw parts.0

    begins : Begun g k r s a (begun s k a)
    unfolding own_refusal
    begins = exec_begun g k r s a here clears parts.1

    -- what it walked is due once the budgets add to more
    pending : (v : Verdict) (w : Walked g r (store_of s k) v most_walked (started fresh a)) (cs : List Request) → AllBetween k cs
        → Pending g k r (store_of s k) bytes v (suc w.commands - budgets k cs) (after (begun s k a) cs)
    unfolding store_of
    pending v w cs b = pending_after g k r (store_of s k) bytes v cs (suc w.commands) (begun s k a)
        (record {
          here = begins.here;
          same = begins.store;
          due = subst (λ (p : Pane). Due g r (store_of s k) v (suc w.commands) p) (sym begins.pane)
              (record { running = refl; apart = tt; ahead = w.ahead });
          off = ap (λ (p : Pane). p.flags.switch) begins.pane;
          good = begins.good;
        })
        b

  -- ## A clean list

  module _ (n : ℕ) (j : JudgedAs s k a (Clean n)) where
    clean_with : CleanWith (walk_of s k a) n
    clean_with = judged_clean s k a n j

    clean_walked : Walked g r (store_of s k) (Clean clean_with.rest) most_walked (started fresh a)
    clean_walked = walked g r (store_of s k) (Clean clean_with.rest) tt most_walked (started fresh a) clean_with.same

    -- the number that the judge tells is the number of commands before the end
    clean_commands : clean_walked.commands ≡ n
    clean_commands = omega (arith, clean_walked.gone, clean_with.count)

    clean : (cs : List Request) → AllBetween k cs → CleanRuns (begun s k a) k n cs
    clean cs b =
        let w = rw clean_commands at (pending (judged_open s k a (Clean n) j) (Clean clean_with.rest) clean_walked cs b) in
        let p : Pane = record_of (after (begun s k a) cs) k in
        record {
          never = clean_unfaulted g r (store_of s k) p clean_with.rest (suc n - budgets k cs) w.due;
          replies = λ m. run_reply g k r (store_of s k) bytes (Clean clean_with.rest) _ m (after (begun s k a) cs) w (λ x. x.status ≢ status_faulted)
              (λ e i h. clean_unfaulted g r (store_of s k) e.pane clean_with.rest i h);
          ends = λ l. due_reached g r (store_of s k) p (Clean clean_with.rest) n (budgets k cs) l w.due;
          running = λ l. due_running g r (store_of s k) p (Clean clean_with.rest) n (budgets k cs) l w.due;
        }

  -- ## A list with a fault that a run can meet

  module _ (f at : ℕ) (j : JudgedAs s k a (Found f at)) (barred : f ≢ fault_barred) (long : f ≢ fault_long) where
    found_walked : Walked g r (store_of s k) (Found f at) most_walked (started fresh a)
    found_walked = walked g r (store_of s k) (Found f at) (barred, long) most_walked (started fresh a) (judged_found s k a f at j)

    found_runs : (cs : List Request) → AllBetween k cs → FoundRuns (begun s k a) k f at found_walked.commands cs
    found_runs cs b =
        let w = pending (judged_open s k a (Found f at) j) (Found f at) found_walked cs b in
        let p : Pane = record_of (after (begun s k a) cs) k in
        record {
          met = λ l. due_reached g r (store_of s k) p (Found f at) found_walked.commands (budgets k cs) l w.due;
          running = λ l. due_running g r (store_of s k) p (Found f at) found_walked.commands (budgets k cs) l w.due;
          replies = λ m. run_reply g k r (store_of s k) bytes (Found f at) _ m (after (begun s k a) cs) w
              (λ x. (x.status ≢ status_ended) × (x.status ≡ status_faulted → x.fault ≡ f)) (λ e i h. found_alone g r (store_of s k) e.pane f at i h);
        }

    found : Foretold (begun s k a) k f at
    found = record { commands = found_walked.commands; walked = found_walked.gone; runs = found_runs }

-- ## The claim

refusals_same : (s : State) (k a : ℕ) → refusal s (on k (judge a)) ≡ refusal s (on k (start a))
unfolding refusal own_refusal
refusals_same s k a = refl

pub verdicts : Verdicts
verdicts = record {
  refusals = refusals_same;
  kept = λ s k a. exec_quiet s k (judge a) (judges a);
  clean = λ s k a n lent j. clean s k a lent n j;
  found = λ s k a f at lent j b l. found s k a lent f at j b l;
}
