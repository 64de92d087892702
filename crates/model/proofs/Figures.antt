-- The bench figures P1 to P12 (01, "Bench figures") hold, each by computation.
use mathlib.Core.Path.{refl}
use Rattle.model.specs.Figures.{All, table}
use Rattle.model.proofs.Computing.{figuring}

pub figures : All table
unfolding figuring
figures = (refl, (refl, (refl, (refl, (refl, (refl, (refl, (refl, (refl, (refl, (refl, (refl, (refl, (refl, tt))))))))))))))
