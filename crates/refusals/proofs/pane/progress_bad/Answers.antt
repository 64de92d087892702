-- The tests on status and fault are the definition's.
use borrow.Author.Rules.{rules}
use Rattle.model.specs.Setup.{progress_bad}
use Rattle.refusals.proofs.pane.progress_bad.Goals as goal

pub returns : goal.returns
unfolding progress_bad
returns c = search rules
