-- RECT's outline by the numbers of its pixels: how many there are, and where each lies.
use Rattle.std.specs.Prelude.{◌≡◌, Bool, true, cond, ◌||◌, ℕ, ◌+◌, ◌-◌, ◌≤◌, ◌<◌, leb, eqb}
use Rattle.model.specs.Ranges.{listed}
use Rattle.model.specs.declared.Pen.{Pen}
use Rattle.model.specs.Pixels.{pattern_source}
use Rattle.model.specs.Dots.{Dot, dot}
use Rattle.canvas.specs.declared.Offset.{Offset}
use Rattle.canvas.specs.Targets.{place_on}
use Rattle.spans.specs.declared.Span.{Span}
use Rattle.spans.specs.Spans.{Bounded, longest_span, span_dots}
use Rattle.traces.specs.declared.Trace.{Trace}
use Rattle.traces.specs.Traces.{TraceSmall, trace_dots}
use Rattle.draw_outlines.specs.declared.Outline.{Outline}
use Rattle.draw_outlines.specs.declared.Side.{Side}

-- the sides are magnitudes of 16-bit offsets
pub record Small (o : Outline) : Type 0 where
  pub a : o.a ≤ 32768
  pub b : o.b ≤ 32768

-- no outline has more pixels
abbrev pub longest_outline : ℕ
longest_outline = 131073

-- how many pixels the outline has, by its sides a = |dx| and b = |dy|
abbrev pub outline_length : ℕ → ℕ → ℕ
outline_length a b = cond (eqb a 0 || eqb b 0) (a + b + 1) (a + b + a + b)

abbrev pub offset_by : ℕ → ℕ → Offset
offset_by x y = record { x = x; y = y }

-- where pixel i of the outline lies on the course: along x, along y, back along x, back along y
abbrev pub outline_at : ℕ → ℕ → ℕ → Offset
outline_at a b i =
    cond (leb i a) (offset_by i 0)
    (cond (leb i (a + b)) (offset_by a (i - a))
    (cond (leb i (a + b + a)) (offset_by (a + b + a - i) b)
    (offset_by 0 (a + b + a + b - i))))

-- pixel i of the outline
unfoldable pub outline_dot : Pen → Outline → ℕ → Dot
outline_dot pen o i = dot (place_on o.course (outline_at o.a o.b i)) (pattern_source pen i)

-- a span is the part of the outline that has n pixels from pixel i on
pub record SideOf (o : Outline) (i n : ℕ) (s : Span) : Type 0 where
  pub bounded : Bounded s
  pub dots : (pen : Pen) → span_dots pen s ≡ listed i n (outline_dot pen o)

-- .. and so is a trace
pub record TraceSideOf (o : Outline) (i n : ℕ) (s : Trace) : Type 0 where
  pub small : TraceSmall s
  pub dots : (pen : Pen) → trace_dots pen s ≡ listed i n (outline_dot pen o)

-- ## Sides

-- so many on from i, or back
abbrev pub onward : Bool → ℕ → ℕ → ℕ
onward back i k = cond back (i - k) (i + k)

-- where the first pixel of a side lies on the course
abbrev pub start_of : Outline → Side → Offset
start_of o s = outline_at o.a o.b s.first

-- a side's pixels lie in a row, one after the other
pub record Level (o : Outline) (s : Side) : Type 0 where
  pub inside : s.first + s.n ≤ o.a + o.b + o.a + o.b + 1
  pub few : s.n ≤ longest_span
  pub room : (k : ℕ) → k < s.n → s.back ≡ true → k ≤ (start_of o s).x
  pub along : (k : ℕ) → k < s.n
      → outline_at o.a o.b (s.first + k) ≡ offset_by (onward s.back (start_of o s).x k) (start_of o s).y

-- .. or in a column
pub record Upright (o : Outline) (s : Side) : Type 0 where
  pub inside : s.first + s.n ≤ o.a + o.b + o.a + o.b + 1
  pub few : s.n ≤ longest_span
  pub room : (k : ℕ) → k < s.n → s.back ≡ true → k ≤ (start_of o s).y
  pub along : (k : ℕ) → k < s.n
      → outline_at o.a o.b (s.first + k) ≡ offset_by (start_of o s).x (onward s.back (start_of o s).y k)
