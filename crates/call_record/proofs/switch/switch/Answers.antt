-- Switch replaces the record of the pane, and keeps everything else.
use mathlib.Core.Path.{refl}
use Rattle.model.specs.Calls.{switch, on_pane}
use Rattle.call_common.proofs.CallLaws.{exec_refused, exec_refused_own, exec_record}
use Rattle.call_record.proofs.switch.switch.Goals as goal

pub returns-in-Err : goal.returns-in-Err
returns-in-Err c = exec_refused _ _ _ c.in-Err.ensures c.refused.ensures

pub returns-in-Err-check_switch : goal.returns-in-Err-check_switch
returns-in-Err-check_switch c =
    exec_refused_own _ _ (switch _) c.in-Ok.ensures (c.in-Err-check_switch.ensures _ _) c.refused-in-Err-check_switch.ensures

pub returns : goal.returns
unfolding on_pane
returns c =
    exec_record _ _ (switch _) c.in-Ok.ensures (c.in_default.ensures _ _) _ refl c.with_record.ensures c.switched-pane.ensures
