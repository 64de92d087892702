-- Peek answers a byte of the pane's part of the stores, which is lent on, and keeps everything.
use mathlib.Core.Path.{refl}
use Rattle.model.specs.Calls.{part, on_pane}
use Rattle.call_common.proofs.CallLaws.{exec_refused, exec_refused_own, length_store_part, exec_value}
use Rattle.call_store.proofs.StoreLaws.{peek_below}
use Rattle.call_store.proofs.peek.peek.Goals as goal

pub returns-in-Err : goal.returns-in-Err
returns-in-Err c = exec_refused _ _ _ c.in-Err.ensures c.refused.ensures

pub returns-in-Err-check_peek : goal.returns-in-Err-check_peek
returns-in-Err-check_peek c =
    exec_refused_own _ _ _ c.in-Ok.ensures (c.in-Err-check_peek.ensures _) c.refused-in-Err-check_peek.ensures

pub byte_at-value-requires : goal.byte_at-value-requires
unfolding part
byte_at-value-requires c = rw (length_store_part _ c.in-Ok.ensures) (peek_below _ _ c.in_default.ensures)

pub returns : goal.returns
unfolding part on_pane
returns c =
    rw c.replied.ensures (exec_value _ _ _ c.in-Ok.ensures (c.in_default.ensures _) refl c.byte_at-value.ensures)
