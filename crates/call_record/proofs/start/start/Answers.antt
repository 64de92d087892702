-- Start replaces the record of the pane, and keeps everything else.
use mathlib.Core.Path.{refl}
use Rattle.model.specs.Calls.{start, own_refusal, on_pane}
use Rattle.call_common.proofs.CallLaws.{exec_refused, exec_refused_own, exec_record}
use Rattle.call_record.proofs.start.start.Goals as goal

pub returns-in-Err : goal.returns-in-Err
returns-in-Err c = exec_refused _ _ _ c.in-Err.ensures c.refused.ensures

pub returns-in-Err-check_start : goal.returns-in-Err-check_start
unfolding own_refusal
returns-in-Err-check_start c =
    exec_refused_own _ _ (start _) c.in-Ok.ensures c.in-Err-check_start.ensures c.refused-in-Err-check_start.ensures

pub returns : goal.returns
unfolding own_refusal on_pane
returns c =
    exec_record _ _ (start _) c.in-Ok.ensures c.in_default.ensures _ refl c.with_record.ensures c.started-pane.ensures
