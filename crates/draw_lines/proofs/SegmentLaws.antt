-- The pixels of a segment by its line's course and axes are those of the paper's LINE.
use mathlib.Core.Path.{◌≡◌, sym, ap, ◌∙◌}
use mathlib.Core.Bool.{Bool, true, false}
use Prim.Native.Nat.{ℕ, suc, ◌+◌, ◌-◌, ◌≤◌, ◌<◌}
use native.Mathlib.Numerals.{add-one}
use native.Mathlib.Omega.{arith}
use borrow.Author.Tests.{le-leb}
use lib.ListN.{length}
use lib.IntN.{ℤ, pos, neg_ℤ, nat_abs, ◌+ℤ◌, +ℤ_idr, +ℤ_assoc, neg_ℤ-+ℤ}
use Rattle.model.specs.Ranges.{listed}
use Rattle.model.specs.Coordinates.{Place, coord, negative, at, offset, place}
use Rattle.model.specs.declared.Point.{Point}
use Rattle.model.specs.declared.Pen.{Pen}
use Rattle.model.specs.declared.Source.{Source}
use Rattle.model.specs.Pixels.{pattern_source}
use Rattle.model.specs.Dots.{dot}
use Rattle.model.specs.Lines.{minor_at, major, minor, offset_x, offset_y, segment_dots, point_at}
use Rattle.coordinates.specs.Offsets.{directed, unbiased}
use Rattle.coordinates.proofs.SignedLaws.{sign_as_directed}
use Rattle.canvas.specs.declared.Course.{Course}
use Rattle.canvas.specs.declared.Target.{Target}
use Rattle.canvas.specs.Canvas.{Canvas, painted, painted_all, Painted}
use Rattle.canvas.specs.Targets.{place_on}
use Rattle.spans.specs.declared.Span.{Span}
use Rattle.spans.specs.Spans.{index_end, span_dot, span_dots}
use Rattle.traces.specs.declared.Trace.{Trace}
use Rattle.traces.specs.Slopes.{longest_line}
use Rattle.traces.specs.Traces.{TraceSmall, trace_dot, trace_dots}
use Rattle.draw_lines.specs.declared.segments.Segment.{Segment}
use Rattle.draw_lines.specs.Segments.{dots_of, AxesOf, TraceOf}
use Rattle.canvas.specs.Targets.{course_of}
use Rattle.canvas.proofs.CanvasLaws.{listed_length}

-- ## LINE

-- a trace from the segment's begin in its direction has the segment's dots
pub trace_dots_lem : (pen : Pen) (from : Point) (dx dy : ℤ) (r : Trace) → r.heading ≡ (course_of from dx dy).heading → AxesOf dx dy r.axes
    → unbiased r.x ≡ coord from.x +ℤ pos 0 → unbiased r.y ≡ coord from.y +ℤ pos 0
    → trace_dots pen r ≡ segment_dots pen (place from) dx dy r.first r.index
unfolding segment_dots trace_dot trace_dots
trace_dots_lem pen from dx dy r h a ex ey =
    simp (h, a.level, a.larger, a.smaller, ex ∙ +ℤ_idr (coord from.x), ey ∙ +ℤ_idr (coord from.y), add-one (major dx dy), sign_as_directed, trace_dot)

-- .. and its numbers are small
pub trace_small : {dx dy : ℤ} {r : Trace} → AxesOf dx dy r.axes → r.x < 131072 → r.y < 131072 → r.first ≤ 1 → r.index < index_end → TraceSmall r
trace_small {dx} {dy} {r} a x y f i = record {
  x = x;
  y = y;
  sloped = record { order = omega (arith, a.larger, a.smaller); small = a.small };
  first = omega arith;
  index = i;
}

-- .. drawn
pub trace_painted : (t : Target) (from : Point) (s : Segment) {r : Trace} (c : Canvas) {c' : Canvas} → TraceOf from s r → Painted t (trace_dots t.pen r) c c'
    → Painted t (dots_of t.pen from s) c c'
trace_painted t from s c o e = e ∙ ap (λ ds. painted_all t ds c) (o.dots t.pen)

-- how long a segment is
pub segment_dots_few : (pen : Pen) (p : Place) (dx dy : ℤ) (first index : ℕ) → nat_abs dx ≤ 32768 → nat_abs dy ≤ 32768
    → length (segment_dots pen p dx dy first index) ≤ longest_line
unfolding segment_dots
segment_dots_few pen p dx dy first index h k = rw listed_length (omega arith)

-- ## A horizontal segment

-- some steps, and then more the same way
pub directed_on : (z : ℤ) (back : Bool) (m k : ℕ) → z +ℤ directed back m +ℤ directed back k ≡ z +ℤ directed back (k + m)
directed_on z false m k =
    let e : m + k ≡ k + m = omega arith in
    +ℤ_assoc z (pos m) (pos k) ∙ ap (λ (n : ℕ). z +ℤ pos n) e
directed_on z true m k =
    let e : m + k ≡ k + m = omega arith in
    +ℤ_assoc z (neg_ℤ (pos m)) (neg_ℤ (pos k))
    ∙ ap (λ (w : ℤ). z +ℤ w) (sym (neg_ℤ-+ℤ (pos m) (pos k)))
    ∙ ap (λ (n : ℕ). z +ℤ neg_ℤ (pos n)) e

module _ (len : ℤ) where
  level_offset : (i : ℕ) → minor_at (major len (pos 0)) (minor len (pos 0)) i ≡ 0
  level_offset i = grind arith

  -- a span from the segment's first pixel in its direction has the segment's dots
  module _ (pen : Pen) (from : Point) (first : ℕ) (r : Span) (el : r.left ≡ negative len)
      (ex : unbiased r.x ≡ coord from.x +ℤ directed (negative len) first) (ey : unbiased r.y ≡ coord from.y +ℤ pos 0)
      (ec : r.count ≡ nat_abs len + 1 - first) where
    level_dot : (k : ℕ) → span_dot pen r k
        ≡ dot (offset (place from) (offset_x len (pos 0) (k + first)) (offset_y len (pos 0) (k + first))) (pattern_source pen (k + r.index))
    unfolding span_dot
    level_dot k =
        let i : r.index + k ≡ k + r.index = omega arith in
        rw (
          le-leb 0 (nat_abs len) (omega arith),
          level_offset (k + first),
          sign_as_directed len (k + first),
          el,
          i,
          ex,
          ey,
          directed_on (coord from.x) (negative len) first k,
        )

    pub level_dots : span_dots pen r ≡ segment_dots pen (place from) len (pos 0) first r.index
    unfolding segment_dots span_dots
    level_dots =
        let e : r.count ≡ suc (major len (pos 0)) - first = omega arith in
        λ j. listed 0 (e j) (λ k. level_dot k j)

-- ## POINT

pub point_at_drawn : (t : Target) (c₀ : Canvas) {p to : Point} {course : Course} {source : Source} {c : Canvas}
    → p ≡ to → course ≡ course_of p (pos 0) (pos 0) → source ≡ pattern_source t.pen 0
    → c ≡ painted t (dot (place_on course (record { x = 0; y = 0 })) source) c₀ → Painted t (point_at t.pen to).dots c₀ c
unfolding point_at painted_all
point_at_drawn t c₀ {to = to} q o s e =
    e ∙ rw (o, q) (λ i. painted t (dot (at (+ℤ_idr (coord to.x) i) (+ℤ_idr (coord to.y) i)) (s i)) c₀)
