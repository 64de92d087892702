-- Put writes into the pane's part of the stores, which is lent on, and keeps everything else.
use mathlib.Core.Path.{refl}
use Rattle.model.specs.declared.Reply.TheVariants as reply
use Rattle.model.specs.Calls.{part, in_part, on_pane}
use Rattle.call_common.proofs.CallLaws.{exec_refused, exec_refused_own, store_room, length_store_part, exec_store}
use Rattle.call_store.proofs.StoreLaws.{put_room}
use Rattle.call_store.proofs.put.put.Goals as goal

pub returns-in-Err : goal.returns-in-Err
returns-in-Err c = exec_refused _ _ _ c.in-Err.ensures c.refused.ensures

pub returns-in-Err-check_put : goal.returns-in-Err-check_put
returns-in-Err-check_put c =
    exec_refused_own _ _ _ c.in-Ok.ensures (c.in-Err-check_put.ensures _) c.refused-in-Err-check_put.ensures

pub write-requires : goal.write-requires
unfolding part
write-requires c = rw (length_store_part _ c.in-Ok.ensures) (put_room _ _ _ c.in_default.ensures)

pub returns : goal.returns
unfolding part in_part on_pane
returns c =
    rw c.replied.ensures (exec_store _ _ _ c.in-Ok.ensures (c.in_default.ensures _) reply.Done refl c.write.ensures)

pub slice_bounds-write-end : goal.slice_bounds-write-end
slice_bounds-write-end c = store_room c.in-Ok.ensures
