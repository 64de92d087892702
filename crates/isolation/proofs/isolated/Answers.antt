-- The theorem is the contract.
use Rattle.isolation.proofs.Theorem.{isolation}
use Rattle.isolation.proofs.isolated.Goals as goal

pub returns : goal.returns
returns c = isolation
