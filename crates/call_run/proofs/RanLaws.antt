-- What a run that is admitted relies on, and what it leaves: the record, the screen and the store that the processor left, and the reply that
-- they give.
use mathlib.Core.Path.{◌≡◌, refl, sym, ap}
use mathlib.Core.List.{List}
use Prim.Native.Nat.{ℕ}
use lib.ListN.{length}
use Rattle.std.specs.Prelude.{Ok}
use Rattle.model.specs.declared.Console.{Console}
use Rattle.model.specs.declared.Row.{Row}
use Rattle.model.specs.Runs.{runs}
use Rattle.model.specs.Replies.{response}
use Rattle.model.specs.Calls.{State, run, on, own_refusal, released, on_pane, ran, exec}
use Rattle.perform.specs.Performing.{Sound}
use Rattle.processor.specs.declared.Finished.{Finished}
use Rattle.processor.specs.Obeying.{finish_of}
use Rattle.refusals.proofs.GoodLaws.{good_released}
use Rattle.call_common.specs.declared.Admission.{Admission}
use Rattle.call_common.specs.Admissions.{Granted}
use Rattle.call_common.specs.Answers.{CallAnswered, answer, replaced}
use Rattle.call_common.proofs.CallLaws.{store_part, with_store, length_store_part, exec_accepted}
use Rattle.call_run.specs.Running.{ran_reply}

-- the record that a run of the pane that was admitted begins with, with its part of the stores
pub granted_sound : {c : Console} {screen number : ℕ} {a : Admission} (stores : List ℕ) → Granted c screen (length stores) number a
    → Sound c.geometry a.row (released a.pane) screen (length (store_part stores a.row))
granted_sound stores g =
    rw (length_store_part stores g, g.row, g.pane) (record { placed = g.admitted.placed; good = good_released g.admitted.good })

-- what the processor left is what the call leaves
pub exec_ran : (s : State) (number budget : ℕ) {a : Admission} → Granted s.console (length s.screen) (length s.stores) number a
    → ((row : Row) (budget : ℕ) → 0 ≡ own_refusal row a.pane (run budget))
    → (e : Finished) (screen store : List ℕ)
    → finish_of e screen store ≡ runs s.console.geometry a.row budget (released a.pane) s.screen (store_part s.stores a.row)
    → {b : CallAnswered} → b ≡ replaced s.console number e.pane (Ok (ran_reply e))
    → answer b screen (with_store s.stores a.row store) ≡ exec s (on number (run budget))
unfolding on_pane
exec_ran s number budget {a} g own e screen store f {b} k =
    exec_accepted s number (run budget) g (own a.row budget) (ap ran (sym f)) b
    (ap (λ (b : CallAnswered). b.console) k) (ap (λ (b : CallAnswered). response b.reply) k) refl refl
