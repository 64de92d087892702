-- What `admit` answers.
use Rattle.std.specs.Prelude.{◌≡◌, ℕ, Ok, Err}
use Rattle.std.specs.declared.result.Result.{Result}
use Rattle.model.specs.declared.Console.{Console}
use Rattle.model.specs.declared.Refusal.{Refusal}
use Rattle.model.specs.Numbers.{refusal_number}
use Rattle.model.specs.Setup.{row_at, pane_at}
use Rattle.model.specs.Calls.{call_checks}
use Rattle.refusals.specs.Admitted.{Admitted}
use Rattle.call_common.specs.declared.Admission.{Admission}

-- what a call has that is admitted to the pane with a number: no refusal applies, the pane's row and record, and all
-- that it may rely on; by the console record and the lengths of the two buffers
pub record Granted (c : Console) (screen stores number : ℕ) (a : Admission) : Type 0 where
  pub clear : call_checks c screen stores number ≡ 0
  pub row : a.row ≡ row_at c.rows number
  pub pane : a.pane ≡ pane_at c.panes number
  pub admitted : Admitted c screen stores number

-- that, or else the first refusal that applies
abbrev pub Admits : Console → ℕ → ℕ → ℕ → Result Admission Refusal → Type 0
Admits c screen stores number (Ok a) = Granted c screen stores number a
Admits c screen stores number (Err r) = refusal_number r ≡ call_checks c screen stores number
