-- `draw_outlines::dotted` meets its contract.
use mathlib.Core.Path.{◌≡◌, refl}
use Prim.Native.Nat.{◌+◌, ◌-◌}
use native.Mathlib.Omega.{arith}
use Rattle.model.specs.Ranges.{listed}
use Rattle.canvas.specs.Canvas.{painted_all}
use Rattle.canvas.proofs.CanvasLaws.{listed_length}
use Rattle.canvas.proofs.PaintLaws.{ready_painted, hits_painted}
use Rattle.draw_outlines.specs.Outlines.{outline_dot}
use Rattle.draw_outlines.proofs.RectLaws.{outline_dot_drawn}
use Rattle.draw_outlines.proofs.SideLaws.{painted_more}
use Rattle.draw_outlines.proofs.dotted.Goals as goal

pub loop-i-init : goal.loop-i-init
unfolding listed painted_all
loop-i-init c = let e : c.args.first - c.args.first ≡ 0 = omega arith in rw e refl

pub draw_dot-seen-requires : goal.draw_dot-seen-requires
draw_dot-seen-requires c = (
  ready_painted c.args.t _ _ c.loop-i.invariant c.requires.0,
  omega (arith, c.outline_offset-offset.ensures.1),
  omega (arith, c.outline_offset-offset.ensures.2),
  omega (arith, rw listed_length at (hits_painted c.args.t _ _ c.loop-i.invariant), c.loop-i.auto.i, c.loop-i-test.true, c.requires.3),
)

pub loop-i-preserved : goal.loop-i-preserved
loop-i-preserved c =
    let a = c.args in
    let i : a.first + (c.loop-i.i - a.first) ≡ c.loop-i.i = omega (arith, c.loop-i.auto.i) in
    let n : c.loop-i.i + 1 - a.first ≡ c.loop-i.i - a.first + 1 = omega (arith, c.loop-i.auto.i) in
    rw n (painted_more a.t a.first (c.loop-i.i - a.first) (outline_dot a.t.pen a.o) _ c.loop-i.invariant
    (rw i (outline_dot_drawn a.t.pen a.o c.loop-i.i c.outline_offset-offset.ensures.0 c.pattern_source-source.ensures)) c.draw_dot-seen.ensures)
