-- The test on status 4 and its cause is the definition's.
use borrow.Author.Rules.{rules}
use Rattle.model.specs.Setup.{trap_bad}
use Rattle.refusals.proofs.pane.trap_bad.Goals as goal

pub returns : goal.returns
unfolding trap_bad
returns c = search rules
