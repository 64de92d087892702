-- The refusal's number, or 0 and the values in their order.
use Rattle.script_numerals.proofs.WroteLaws.{Wrote-values}
use Rattle.script_replies.proofs.values.Goals as goal

pub returns-in-Ok : goal.returns-in-Ok
returns-in-Ok c = rw c.in-Ok.is (Wrote-values _ _ c.value-zero.ensures c.accepted.ensures)

pub returns-in-Err : goal.returns-in-Err
returns-in-Err c = rw c.in-Err.is (rw c.from.ensures at c.value.ensures)
