-- `draw_circles::circle` meets its contract: the circle about the position, which stays.
use mathlib.Core.Path.{refl, sym}
use Rattle.model.specs.Circles.{circle}
use Rattle.draw_circles.proofs.circle.Goals as goal

pub returns : goal.returns
unfolding circle
returns c =
    record { dots = rw (sym c.magnitude-r.ensures.0) c.draw_circle-hits.ensures; position = refl; trap = refl }
