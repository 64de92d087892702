-- Three values in their order.
use Rattle.script_numerals.proofs.WroteLaws.{Wrote-values}
use Rattle.script_replies.proofs.progress.Goals as goal

pub returns : goal.returns
returns c =
    Wrote-values _ _ c.value-status.ensures (Wrote-values _ _ c.value-fault.ensures c.pointer.ensures)
