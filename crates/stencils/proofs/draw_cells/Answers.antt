-- `stencils::draw_cells` meets its contract: four words, eight or twelve are mixed, and make one stretch of the row.
use native.Mathlib.Omega.{arith}
use Rattle.stencils.proofs.StencilLaws.{in_four, in_eight, in_twelve}
use Rattle.stencils.proofs.draw_cells.Goals as goal

pub returns-then-s-gt128 : goal.returns-then-s-gt128
returns-then-s-gt128 c =
    let a = c.args in
    in_twelve a.s c.requires.0 a.cells a.row c.rotate_left-met.result c.over_first-first.result c.rotate_left-met.ensures c.over_first-first.ensures
    c.over_last-last.result c.over_last-last.ensures c.mix.ensures c.chosen.ensures c.mix-then-s-gt64.ensures c.chosen-then-s-gt64.ensures
    c.mix-then-s-gt128.ensures c.chosen-then-s-gt128.ensures c.if-s-gt128.true

pub returns-else-s-gt128 : goal.returns-else-s-gt128
returns-else-s-gt128 c =
    let a = c.args in
    in_eight a.s c.requires.0 a.cells a.row c.rotate_left-met.result c.over_first-first.result c.rotate_left-met.ensures c.over_first-first.ensures
    c.over_last-last.result c.over_last-last.ensures c.mix.ensures c.chosen.ensures c.mix-then-s-gt64.ensures c.chosen-then-s-gt64.ensures
    c.if-s-gt64.true (omega (arith, c.if-s-gt128.false))

pub returns-else-s-gt64 : goal.returns-else-s-gt64
returns-else-s-gt64 c =
    let a = c.args in
    in_four a.s c.requires.0 a.cells a.row c.rotate_left-met.result c.over_first-first.result c.rotate_left-met.ensures c.over_first-first.ensures
    c.mix.ensures c.chosen.ensures (omega (arith, c.if-s-gt64.false))
