-- Progress, and four values in their order.
use Rattle.script_numerals.proofs.WroteLaws.{Wrote-values}
use Rattle.script_replies.proofs.seen.Goals as goal

pub returns : goal.returns
returns c =
    Wrote-values _ _ c.progress-first.ensures
    (Wrote-values _ _ c.coordinate-x.ensures
    (Wrote-values _ _ c.coordinate-y.ensures
    (Wrote-values _ _ c.flag-pick.ensures c.flag.ensures)))
