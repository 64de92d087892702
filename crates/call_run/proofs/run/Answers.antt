-- Run lends the screen and the pane's part of the stores on, and replaces the pane's record by the one that the run left.
use Rattle.model.specs.Calls.{part, in_part}
use Rattle.call_common.proofs.CallLaws.{exec_refused, exec_refused_own}
use Rattle.call_run.proofs.RanLaws.{granted_sound, exec_ran}
use Rattle.call_run.proofs.run.Goals as goal

pub returns-in-Err : goal.returns-in-Err
returns-in-Err c = exec_refused _ _ _ c.in-Err.ensures c.refused.ensures

pub returns-in-Err-check_run : goal.returns-in-Err-check_run
returns-in-Err-check_run c =
    exec_refused_own _ _ _ c.in-Ok.ensures (c.in-Err-check_run.ensures _ _) c.refused-in-Err-check_run.ensures

pub run-s-requires : goal.run-s-requires
unfolding part
run-s-requires c = rw c.released-begun.ensures (granted_sound _ c.in-Ok.ensures)

pub returns : goal.returns
unfolding part in_part
returns c =
    exec_ran _ _ _ c.in-Ok.ensures c.in_default.ensures
    c.run-s.result _ _ (rw c.released-begun.ensures at c.run-s.ensures.leaves) (rw c.ran.ensures at c.with_record.ensures)
