-- Set-up's checks go by the lengths of the buffers; accepted, all eight records are fresh ones.
use mathlib.Core.Path.{sym}
use Rattle.model.specs.Calls.{set_up, setup_refusal}
use Rattle.call_common.proofs.CallLaws.{set_up_refused}
use Rattle.call_setup.proofs.set_up.Goals as goal

pub returns-in-Err : goal.returns-in-Err
unfolding setup_refusal
returns-in-Err c = set_up_refused _ c.refused.ensures c.in-Err.ensures

pub returns : goal.returns
unfolding set_up setup_refusal
returns c = simp (sym c.in_default.ensures, c.replied.ensures, c.fresh-pane.ensures)
