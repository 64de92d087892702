-- Look shows the record of the pane and keeps everything.
use mathlib.Core.Path.{refl, ap, ◌∙◌}
use Rattle.call_common.specs.declared.Answered.{Answered}
use Rattle.call_common.specs.Answers.{answer}
use Rattle.model.specs.Calls.{own_refusal, on_pane}
use Rattle.call_common.proofs.CallLaws.{exec_refused, exec_kept}
use Rattle.call_record.proofs.look.look.Goals as goal

pub returns-in-Err : goal.returns-in-Err
returns-in-Err c = exec_refused _ _ _ c.in-Err.ensures c.refused.ensures

pub returns : goal.returns
unfolding own_refusal on_pane
returns c =
    rw c.replied.ensures (exec_kept _ _ _ c.in-Ok.ensures refl refl c.shown.result c.shown.ensures)
