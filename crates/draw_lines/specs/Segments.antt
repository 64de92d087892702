-- A segment's pixels by its line's course and axes, as the code has them.
use Rattle.std.specs.Prelude.{ℕ, ◌≤◌, ◌<◌, ◌≡◌, List, ℤ, pos}
use Rattle.model.specs.Coordinates.{coord, negative, place}
use Rattle.model.specs.declared.Pen.{Pen}
use Rattle.model.specs.declared.Point.{Point}
use Rattle.model.specs.Dots.{Dot}
use Rattle.model.specs.Lines.{major, minor, flat, segment_dots}
use Rattle.spans.specs.declared.Span.{Span}
use Rattle.spans.specs.Spans.{Bounded, index_end, span_dots}
use Rattle.traces.specs.declared.Trace.{Trace}
use Rattle.traces.specs.declared.slopes.Axes.{Axes}
use Rattle.traces.specs.Slopes.{longest_line}
use Rattle.traces.specs.Traces.{TraceSmall, trace_dots}
use Rattle.draw_lines.specs.declared.segments.Segment.{Segment}

-- a segment that can be traced: it begins with the line's first pixel or the one after it, and its index is small
pub record Traceable (s : Segment) : Type 0 where
  pub first : s.first ≤ 1
  pub index : s.index < index_end

-- the dots of a segment from a position
abbrev pub dots_of : Pen → Point → Segment → List Dot
dots_of pen from s = segment_dots pen (place from) (coord s.dx) (coord s.dy) s.first s.index

-- a whole line as a segment
abbrev pub whole_line : ℕ → ℕ → Segment
whole_line dx dy = record { dx = dx; dy = dy; first = 0; index = 0 }

-- the axes of a line by (dx,dy)
pub record AxesOf (dx dy : ℤ) (a : Axes) : Type 0 where
  pub level : a.level ≡ flat dx dy
  pub larger : a.larger ≡ major dx dy
  pub smaller : a.smaller ≡ minor dx dy
  pub small : a.larger < longest_line

-- the span of a horizontal segment from a position: its numbers are small, and its dots are the segment's
pub record LevelSpan (from : Point) (s : Segment) (r : Span) : Type 0 where
  pub bounded : Bounded r
  pub left : r.left ≡ negative (coord s.dx)
  pub dots : (pen : Pen)
      → span_dots pen r ≡ segment_dots pen (place from) (coord s.dx) (pos 0) s.first s.index

-- the trace of a segment from a position: its numbers are small, and its dots are the segment's
pub record TraceOf (from : Point) (s : Segment) (r : Trace) : Type 0 where
  pub small : TraceSmall r
  pub dots : (pen : Pen) → trace_dots pen r ≡ dots_of pen from s
