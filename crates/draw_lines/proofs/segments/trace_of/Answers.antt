-- `draw_lines::segments::trace_of` meets its contract.
use mathlib.Core.Path.{ap}
use Rattle.model.specs.Coordinates.{coord}
use Rattle.canvas.specs.declared.Course.{Course}
use Rattle.draw_lines.proofs.SegmentLaws.{trace_dots_lem, trace_small}
use Rattle.draw_lines.proofs.segments.trace_of.Goals as goal

pub returns : goal.returns
returns c =
    record {
      small = trace_small c.axes_of-axes.ensures c.biased-x.ensures.1 c.biased-y.ensures.1 c.requires.first c.requires.index;
      dots = λ pen.
          trace_dots_lem pen c.args.from (coord c.args.s.dx) (coord c.args.s.dy) _ (ap (λ (k : Course). k.heading) c.course_of-course.ensures)
          c.axes_of-axes.ensures c.biased-x.ensures.0 c.biased-y.ensures.0;
    }
