-- The theorem is the contract.
use Rattle.model.proofs.Figures.{figures}
use Rattle.model.proofs.figures_hold.Statement.{statement}
use Rattle.model.proofs.figures_hold.Tie as tie

returns : tie.Need-returns
returns c = figures

pub figures_hold_spec : {M : Type 1} → statement M
figures_hold_spec = tie.close (tie.spec returns)
