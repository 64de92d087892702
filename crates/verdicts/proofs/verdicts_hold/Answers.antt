-- The theorem is the contract.
use Rattle.verdicts.proofs.Theorem.{verdicts}
use Rattle.verdicts.proofs.verdicts_hold.Goals as goal

pub returns : goal.returns
returns c = verdicts
