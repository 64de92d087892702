-- `canvas::landing::landing_clip` meets its contract, by the three cases of a bitmap.
use native.Mathlib.Omega.{arith}
use Rattle.canvas.proofs.LandingLaws.{scissor_limited}
use Rattle.canvas.proofs.landing.landing_clip.Goals as goal

pub limits_of-requires : goal.limits_of-requires
limits_of-requires c =
    let clip = c.well_formed.1.0.1.1.1.1.1.0 in
    scissor_limited c.args.r c.args.p.clip c.in-Pane.is c.requires (omega (arith, clip)) (omega (arith, clip))
