-- `spans::sighted` meets its contract: equal edges draw nothing, pick mode only counts, else the visible part is to be drawn.
use mathlib.Core.Path.{◌≡◌, sym, ap, ◌∙◌}
use Prim.Native.Nat.{ℕ, ◌+◌, ◌-◌}
use native.Mathlib.Omega.{arith}
use Rattle.model.specs.Dots.{hits}
use Rattle.canvas.specs.Canvas.{canvas}
use Rattle.strips.specs.Strokes.{pattern_on}
use Rattle.spans.specs.Spans.{span_dots}
use Rattle.canvas.proofs.BufferLaws.{picked_painted}
use Rattle.spans.proofs.DrawLaws.{drawn_none, drawn_hits, seen_most}
use Rattle.spans.proofs.sighted.Goals as goal
use Rattle.spans.proofs.sighted.Goals.{After-seen_of}

-- how many are visible
module _ (c : After-seen_of) where
  counted : hits c.args.t.area.surface c.args.t.clip (span_dots c.args.t.pen c.args.s) ≡ c.seen_of.result
  counted =
      let e = c.edges_of-e.ensures in
      drawn_hits c.args.t.area.surface c.args.t.clip c.args.s c.edges_of-e.result c.requires.0 c.requires.1 e
      (omega (arith, e.ordered, c.if-e.false)) c.args.t.pen
      ∙ sym c.seen_of.ensures

pub returns-then-e : goal.returns-then-e
returns-then-e c screen store =
    drawn_none c.args.t c.args.s c.edges_of-e.result (canvas screen store c.args.hits) c.edges_of-e.ensures c.if-e.true

pub overflow_add-seen : goal.overflow_add-seen
overflow_add-seen c =
    let e = c.edges_of-e.result in
    omega (
      arith,
      c.seen_of.ensures,
      seen_most c.args.t.pen.transparent (pattern_on c.args.t.pen.pattern) (c.args.s.index + e.first) (e.second - e.first),
      c.edges_of-e.ensures.last,
      c.requires.2.count,
    )

pub returns-then-t : goal.returns-then-t
returns-then-t c screen store =
    let a = c.args in
    picked_painted a.t (span_dots a.t.pen a.s) screen store a.hits c.seen_of.result (counted (goal.at.returns-then-t c).After-seen_of) c.if-t.true

pub returns : goal.returns
returns c = record {
  edges = c.edges_of-e.ensures;
  some = omega (arith, c.edges_of-e.ensures.ordered, c.if-e.false);
  count = ap (λ (n : ℕ). c.args.hits + n) (sym (counted (goal.at.returns c).After-seen_of));
  drawing = c.if-t.false;
}
