-- Clear makes the record of the pane fresh, and keeps everything else.
use mathlib.Core.Path.{refl}
use Rattle.model.specs.Calls.{own_refusal, on_pane}
use Rattle.call_common.proofs.CallLaws.{exec_refused, exec_record}
use Rattle.call_record.proofs.clear.clear.Goals as goal

pub returns-in-Err : goal.returns-in-Err
returns-in-Err c = exec_refused _ _ _ c.in-Err.ensures c.refused.ensures

pub returns : goal.returns
unfolding own_refusal on_pane
returns c = exec_record _ _ _ c.in_default.ensures refl _ refl c.with_record.ensures c.fresh.ensures
