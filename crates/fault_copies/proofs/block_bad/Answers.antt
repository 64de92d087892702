-- `fault_copies::block_bad` meets its contract: the tests are the definition's, in its order.
use Rattle.model.specs.Copies.{block_bad}
use Rattle.fault_copies.proofs.block_bad.Goals as goal

pub returns : goal.returns
unfolding block_bad
returns c = cc
