-- The examples hold: all of them are computed.
use mathlib.Core.Path.{refl}
use Rattle.model.specs.Ranges.{listed}
use Rattle.spans.specs.Examples.{Worked}

pub worked : Worked
unfolding listed
worked = record { right = refl; left = refl; outside = refl }
