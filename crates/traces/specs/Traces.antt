-- The pixels of a trace: where each lies, and what it is drawn with.
use Rattle.std.specs.Prelude.{ℕ, ◌+◌, ◌-◌, ◌<◌, ◌≤◌, cond, List, ◌+ℤ◌}
use Rattle.model.specs.Ranges.{listed}
use Rattle.model.specs.Coordinates.{Place, at}
use Rattle.model.specs.Pixels.{pattern_source}
use Rattle.model.specs.Dots.{Dot, dot}
use Rattle.model.specs.declared.Pen.{Pen}
use Rattle.coordinates.specs.Offsets.{directed, unbiased}
use Rattle.canvas.specs.declared.Offset.{Offset}
use Rattle.spans.specs.Spans.{index_end}
use Rattle.traces.specs.declared.Trace.{Trace}
use Rattle.traces.specs.declared.slopes.Axes.{Axes}
use Rattle.traces.specs.Slopes.{Sloped, minor_of}

-- the numbers of a trace are small
pub record TraceSmall (s : Trace) : Type 0 where
  pub x : s.x < 131072
  pub y : s.y < 131072
  pub sloped : Sloped s.axes
  pub first : s.first ≤ s.axes.larger + 1
  pub index : s.index < index_end

-- "For i = 0 to n the major offset is i" (01, LINE): where pixel i of a line lies from its begin
abbrev pub trace_at : Axes → ℕ → Offset
trace_at a i =
    record {
      x = cond a.level i (minor_of a i);
      y = cond a.level (minor_of a i) i;
    }

-- ".. each with its sign": where pixel i of a trace's line lies
abbrev pub trace_place : Trace → ℕ → Place
trace_place s i =
    at (unbiased s.x +ℤ directed s.heading.left (trace_at s.axes i).x)
    (unbiased s.y +ℤ directed s.heading.up (trace_at s.axes i).y)

-- pixel k of a trace
unfoldable pub trace_dot : Pen → Trace → ℕ → Dot
trace_dot pen s k = dot (trace_place s (k + s.first)) (pattern_source pen (k + s.index))

-- how many pixels a trace has
abbrev pub trace_length : Trace → ℕ
trace_length s = s.axes.larger + 1 - s.first

-- its dots
unfoldable pub trace_dots : Pen → Trace → List Dot
trace_dots pen s = listed 0 (trace_length s) (trace_dot pen s)
