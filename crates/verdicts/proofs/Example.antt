-- The example holds: all of it is computed.
use mathlib.Core.Path.{refl}
use Rattle.model.proofs.Computing.{machine}
use Rattle.isolation.specs.TwoRuns.{after, replies_on}
use Rattle.verdicts.specs.Example.{Worked}

pub worked : Worked
unfolding machine after replies_on
worked = record { size = refl; judged = refl; page = refl; screen = refl; pair = refl; kept = refl }
