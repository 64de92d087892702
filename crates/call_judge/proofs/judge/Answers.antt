-- The judge is lent the pane's part of the stores, answers what the walk says of it, and keeps everything.
use mathlib.Core.Path.{refl, ap}
use Rattle.model.specs.declared.Reply.TheVariants as reply
use Rattle.model.specs.Replies.{Verdict, accepted_with, verdict_values}
use Rattle.model.specs.Calls.{judge, part, own_refusal, on_pane}
use Rattle.call_common.proofs.CallLaws.{exec_refused, exec_refused_own, exec_kept}
use Rattle.call_judge.proofs.FreshLaws.{granted_checkable}
use Rattle.call_judge.proofs.judge.Goals as goal

pub returns-in-Err : goal.returns-in-Err
returns-in-Err c = exec_refused _ _ _ c.in-Err.ensures c.refused.ensures

pub returns-in-Err-check_start : goal.returns-in-Err-check_start
unfolding own_refusal
returns-in-Err-check_start c =
    rw c.refused-in-Err-check_start.ensures
    (exec_refused_own _ _ (judge _) c.in-Ok.ensures c.in-Err-check_start.ensures refl)

pub judge-verdict-requires : goal.judge-verdict-requires
unfolding part
judge-verdict-requires c = granted_checkable _ c.in-Ok.ensures

pub returns : goal.returns
unfolding own_refusal part on_pane
returns c =
    rw c.replied.ensures (exec_kept _ _ (judge _) c.in-Ok.ensures c.in_default.ensures refl
    (reply.Judged c.judge-verdict.result) (ap (λ (v : Verdict). accepted_with (verdict_values v)) c.judge-verdict.ensures))
