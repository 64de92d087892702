-- `draw_lines::segments::level_span` meets its contract: the span from the segment's first pixel in its direction has the segment's dots.
use mathlib.Core.Path.{ap}
use Prim.Native.Nat.{ℕ, ◌+◌, ◌-◌}
use native.Mathlib.Omega.{arith}
use Rattle.model.specs.Coordinates.{coord}
use Rattle.draw_lines.proofs.SegmentLaws.{level_dots}
use Rattle.draw_lines.proofs.segments.level_span.Goals as goal

pub returns : goal.returns
returns c =
    let a = c.args in
    record {
      bounded = record {
        x = omega (arith, c.biased-x.ensures.1);
        y = omega (arith, c.biased-y.ensures.1);
        count = omega (arith, c.magnitude.ensures.1);
        index = c.requires.index;
      };
      left = c.is_negative-left.ensures;
      dots = λ pen. level_dots (coord a.s.dx) pen a.from a.s.first _ c.is_negative-left.ensures
          (rw (← c.is_negative-left.ensures) c.biased-x.ensures.0) c.biased-y.ensures.0
          (ap (λ (n : ℕ). n + 1 - a.s.first) c.magnitude.ensures.0);
    }
