-- Each verdict's two values in their order.
use Rattle.script_numerals.proofs.WroteLaws.{Wrote-values}
use Rattle.script_replies.proofs.judged.Goals as goal

-- clean: 0 and the commands walked
pub returns-in-Ok : goal.returns-in-Ok
returns-in-Ok c =
    rw c.in-Ok.is (Wrote-values _ _ c.value-clean.ensures c.value.ensures)

-- a fault and its address
pub returns-in-Err : goal.returns-in-Err
returns-in-Err c =
    rw c.in-Err.is (Wrote-values _ _ (rw c.from.ensures at c.value-found.ensures) c.pointer.ensures)
