-- The theorem is the contract.
use Rattle.model.proofs.CirclePointLaws.{circle_points_lem}
use Rattle.model.proofs.circles_hold.Statement.{statement}
use Rattle.model.proofs.circles_hold.Tie as tie

returns : tie.Need-returns
returns c = circle_points_lem

pub circles_hold_spec : {M : Type 1} → statement M
circles_hold_spec = tie.close (tie.spec returns)
