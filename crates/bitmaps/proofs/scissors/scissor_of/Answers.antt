-- `bitmaps::scissors::scissor_of` meets its contract, by the three cases of a bitmap.
use Rattle.model.specs.Scissor.{scissor_of}
use Rattle.bitmaps.proofs.scissors.scissor_of.Goals as goal

pub returns-in-Absent : goal.returns-in-Absent
unfolding scissor_of
returns-in-Absent c = rw c.in-Absent.is c.no_scissor.ensures

pub returns-in-Pane : goal.returns-in-Pane
unfolding scissor_of
returns-in-Pane c = rw c.in-Pane.is c.pane_scissor.ensures

pub returns-in-Store : goal.returns-in-Store
unfolding scissor_of
returns-in-Store c = rw c.in-Store.is c.no_scissor-in-Store.ensures
