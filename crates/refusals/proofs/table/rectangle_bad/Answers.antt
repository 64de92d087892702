-- Refusal 8's tests are the definition's, in its order; the sums are of 33 bits.
use Rattle.model.specs.Setup.{rectangle_bad}
use borrow.Author.Rules.{rules}
use Rattle.refusals.proofs.table.rectangle_bad.Goals as goal

pub returns : goal.returns
unfolding rectangle_bad
returns c = search rules
