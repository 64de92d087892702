-- The theorem is the contract.
use Rattle.model.proofs.ScissorLaws.{scissor_kept}
use Rattle.model.proofs.scissor_holds.Statement.{statement}
use Rattle.model.proofs.scissor_holds.Tie as tie

returns : tie.Need-returns
returns c = scissor_kept

pub scissor_holds_spec : {M : Type 1} → statement M
scissor_holds_spec = tie.close (tie.spec returns)
