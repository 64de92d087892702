-- `draw_outlines::draw_sides` meets its contract: one side, and then the other.
use mathlib.Core.Path.{refl}
use Prim.Native.Nat.{◌+◌}
use native.Mathlib.Omega.{arith}
use Rattle.canvas.proofs.CanvasLaws.{listed_length}
use Rattle.canvas.proofs.PaintLaws.{ready_painted, hits_painted}
use Rattle.draw_outlines.specs.Outlines.{outline_dot}
use Rattle.draw_outlines.proofs.SideLaws.{painted_parts}
use Rattle.draw_outlines.proofs.draw_sides.Goals as goal

pub draw_upright-requires : goal.draw_upright-requires
draw_upright-requires c =
    let t = c.args.t in
    let e = c.draw_level-seen.ensures in (
      ready_painted t _ _ e c.requires.0,
      c.requires.1,
      c.requires.3,
      omega (arith, rw listed_length at (hits_painted t _ _ e), c.requires.2.few, c.requires.5),
    )

pub returns : goal.returns
returns c =
    let a = c.args in
    painted_parts a.t a.level.first a.level.n (outline_dot a.t.pen a.o) _ c.draw_level-seen.ensures a.upright.n a.upright.first
    (a.level.n + a.upright.n) c.requires.4 refl c.draw_upright.ensures
