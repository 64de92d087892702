-- `traces::sighted` meets its contract: equal edges draw nothing, pick mode only counts, else the visible pixels are to be drawn.
use Rattle.std.proofs.Common.{◌≡◌, ℕ, ◌+◌, ◌-◌, sym, ap, ◌∙◌, arith}
use Rattle.model.specs.Dots.{hits}
use Rattle.canvas.specs.Canvas.{canvas}
use Rattle.strips.specs.Strokes.{pattern_on}
use Rattle.canvas.proofs.BufferLaws.{picked_painted}
use Rattle.spans.proofs.DrawLaws.{seen_most}
use Rattle.traces.specs.Traces.{trace_dots}
use Rattle.traces.proofs.TraceLaws.{trace_none, trace_hits}
use Rattle.traces.proofs.sighted.Goals as goal
use Rattle.traces.proofs.sighted.Goals.{After-seen_of}

-- how many are visible
module _ (c : After-seen_of) where
  counted : hits c.args.t.area.surface c.args.t.clip (trace_dots c.args.t.pen c.args.s) ≡ c.seen_of.result
  counted =
      let e = c.edges_of-e.ensures in
      trace_hits c.args.t c.args.s c.edges_of-e.result c.requires.0 c.requires.1 e (omega (arith, e.ordered, c.if-e.false))
      ∙ sym c.seen_of.ensures

pub returns-then-e : goal.returns-then-e
returns-then-e c screen store =
    trace_none c.args.t c.args.s c.edges_of-e.result c.requires.0 c.requires.1 c.edges_of-e.ensures c.if-e.true
    (canvas screen store c.args.hits)

pub overflow_add-seen : goal.overflow_add-seen
overflow_add-seen c =
    let e = c.edges_of-e.result in
    let a = c.args in
    omega (
      arith,
      c.seen_of.ensures,
      seen_most a.t.pen.transparent (pattern_on a.t.pen.pattern) (a.s.index + (e.first - a.s.first)) (e.second - e.first),
      c.edges_of-e.ensures.last,
      c.requires.2.sloped.small,
    )

pub returns-then-t : goal.returns-then-t
returns-then-t c screen store =
    let a = c.args in
    picked_painted a.t (trace_dots a.t.pen a.s) screen store a.hits c.seen_of.result (counted (goal.at.returns-then-t c).After-seen_of) c.if-t.true

pub returns : goal.returns
returns c = record {
  edges = c.edges_of-e.ensures;
  some = omega (arith, c.edges_of-e.ensures.ordered, c.if-e.false);
  count = ap (λ (n : ℕ). c.args.hits + n) (sym (counted (goal.at.returns c).After-seen_of));
  drawing = c.if-t.false;
}
