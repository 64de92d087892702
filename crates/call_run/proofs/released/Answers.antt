-- The record that a run begins with, by the status.
use borrow.Author.Tests.{eq-eqb, ne_eqb}
use Rattle.model.specs.Numbers.{status_trapped}
use Rattle.model.specs.Calls.{released}
use Rattle.call_run.proofs.released.Goals as goal

pub returns-then-pane-ne-STATUS_TRAPPED : goal.returns-then-pane-ne-STATUS_TRAPPED
unfolding released
returns-then-pane-ne-STATUS_TRAPPED c = rw (ne_eqb c.args.pane.progress.status status_trapped c.if-pane-ne-STATUS_TRAPPED.true)

pub returns : goal.returns
unfolding released
returns c = rw (eq-eqb c.args.pane.progress.status status_trapped c.if-pane-ne-STATUS_TRAPPED.false)
