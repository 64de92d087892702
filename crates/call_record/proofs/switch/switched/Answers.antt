-- The switch set, and status 1 where it is turned off at status 4.
use Rattle.model.specs.Calls.{switched}
use Rattle.call_record.proofs.switch.switched.Goals as goal

pub returns-then-value-pane : goal.returns-then-value-pane
unfolding switched
returns-then-value-pane c = rw c.if-value-pane.true

pub returns-else-value-pane : goal.returns-else-value-pane
unfolding switched
returns-else-value-pane c = rw c.if-value-pane.false
