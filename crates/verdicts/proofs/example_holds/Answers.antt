-- The example is the contract.
use Rattle.verdicts.proofs.Example.{worked}
use Rattle.verdicts.proofs.example_holds.Goals as goal

pub returns : goal.returns
returns c = worked
