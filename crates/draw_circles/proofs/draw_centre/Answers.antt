-- `draw_circles::draw_centre` meets its contract: a circle of radius 0 is one dot.
use Rattle.model.specs.Circles.{circle_points, circle}
use Rattle.canvas.specs.Canvas.{painted_all}
use Rattle.draw_circles.proofs.draw_centre.Goals as goal

pub returns : goal.returns
unfolding circle circle_points painted_all
returns c = c.draw_dot.ensures
