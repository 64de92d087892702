-- `judge::judge` meets its contract by the verdict on the whole list.
use mathlib.Core.Path.{sym}
use Rattle.std.proofs.lemmas.Result.{err_from_is_err_and}
use Rattle.judge.proofs.JudgeLaws.{verdict_stop}
use Rattle.judge.proofs.judge.Goals as goal

pub returns-in_err-left : goal.returns-in_err-left
returns-in_err-left c =
    let p = err_from_is_err_and c.from_residual.result c.from_residual.ensures.1 in
    rw (p.1, p.2) (sym (verdict_stop _ _ _ _ _ c.in_err-left.ensures))

pub returns : goal.returns
returns c = sym (verdict_stop _ _ _ _ _ (rw c.in-Ended.is at c.in_ok-left.ensures))
