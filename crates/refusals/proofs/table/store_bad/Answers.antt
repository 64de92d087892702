-- Refusal 9's tests are the definition's, in its order; the sum is of 33 bits.
use Rattle.model.specs.Setup.{store_bad}
use borrow.Author.Rules.{rules}
use Rattle.refusals.proofs.table.store_bad.Goals as goal

pub returns : goal.returns
unfolding store_bad
returns c = search rules
