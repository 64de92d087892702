-- `draw_outlines::draw_outline` meets its contract: all pixels dot by dot, or the way out and, if there is one, the way back.
use mathlib.Core.Path.{refl}
use Prim.Native.Nat.{◌+◌, ◌-◌}
use native.Mathlib.Omega.{arith}
use Rattle.canvas.proofs.CanvasLaws.{listed_length}
use Rattle.canvas.proofs.PaintLaws.{ready_painted, hits_painted}
use Rattle.draw_outlines.specs.Outlines.{outline_dot}
use Rattle.draw_outlines.proofs.SideLaws.{painted_parts, length_whole}
use Rattle.draw_outlines.proofs.draw_outline.Goals as goal

pub draw_sides-requires : goal.draw_sides-requires
draw_sides-requires c =
    let e = c.draw_sides-hits.ensures in (
      ready_painted c.args.t _ _ e c.requires.0,
      c.requires.1,
      record { inside = omega arith; few = omega arith; room = λ k l q. grind arith; along = λ k l. grind arith },
      record { inside = omega arith; few = omega arith; room = λ k l q. grind arith; along = λ k l. grind arith },
      refl,
      omega (arith, rw listed_length at (hits_painted c.args.t _ _ e), c.requires.1.a, c.requires.1.b),
    )

pub returns : goal.returns
returns c =
    let a = c.args in
    painted_parts a.t 0 (a.o.a + 1 + a.o.b) (outline_dot a.t.pen a.o) _ c.draw_sides-hits.ensures (a.o.a + (a.o.b - 1)) (a.o.a + a.o.b + 1) _
    (omega arith) (omega (arith, length_whole a.o.a a.o.b (omega (arith, c.if-o-eq0.false)) (omega (arith, c.if-o-eq0-2.false))))
    c.draw_sides.ensures
