-- The clip's test, variant by variant.
use Rattle.model.specs.Faults.{clip_outside}
use Rattle.bitmaps.proofs.clip_outside.Goals as goal

pub returns-in-Absent : goal.returns-in-Absent
unfolding clip_outside
returns-in-Absent c = cc

pub returns-in-Pane : goal.returns-in-Pane
unfolding clip_outside
returns-in-Pane c = simp c.in-Pane.is c.clip_beyond-in-Pane.ensures

pub returns-in-Store : goal.returns-in-Store
unfolding clip_outside
returns-in-Store c = simp c.in-Store.is c.clip_beyond-in-Store.ensures
