-- `draw_outlines::rect` meets its contract: the outline by its numbers is RECT's.
use mathlib.Core.Path.{refl}
use Rattle.model.specs.Coordinates.{coord}
use Rattle.model.specs.Lines.{rectangle}
use Rattle.draw_outlines.proofs.RectLaws.{rectangle_dots}
use Rattle.draw_outlines.proofs.rect.Goals as goal

pub returns : goal.returns
unfolding rectangle
returns c =
    let a = c.args in
    record {
      dots =
          rw (rectangle_dots a.t.pen a.from (coord a.dx) (coord a.dy) c.course_of-course.ensures
          c.magnitude-a.ensures.0 c.magnitude-b.ensures.0)
          c.draw_outline-hits.ensures;
      position = refl;
      trap = refl;
    }
