-- `batches::draw_batch` meets its contract: the target of a drawable pane is ready, and not in pick mode.
use native.Mathlib.Omega.{arith}
use Rattle.batches.proofs.BatchLaws.{drawable_ready, drawable_drawing}
use Rattle.batches.proofs.draw_batch.Goals as goal

pub stamps_of-stamps-requires : goal.stamps_of-stamps-requires
stamps_of-stamps-requires c =
    let ready = drawable_ready c.requires c.target_of-t.ensures in
    (ready.depth, ready.table)

pub batch_on-requires : goal.batch_on-requires
batch_on-requires c =
    let placed = c.requires.sound.placed in
    (drawable_ready c.requires c.target_of-t.ensures, drawable_drawing c.requires c.target_of-t.ensures, c.stamps_of-stamps.ensures, omega arith)
