-- `draw_circles::sheets::mirrored` meets its contract: the four places, each drawn if it is in the limits and is not there yet.
use mathlib.Core.Bool.{true, false}
use native.Mathlib.Omega.{arith}
use lib.Dec.{ltb}
use Rattle.draw_circles.proofs.SheetLaws.{sheet_on}
use Rattle.draw_circles.proofs.MirrorLaws.{place_limits, mirrored_dabbed}
use Rattle.draw_circles.proofs.sheets.mirrored.Goals as goal

pub dab-one-requires : goal.dab-one-requires
dab-one-requires c =
    let a = c.args in (
      c.requires.0,
      place_limits a.s a.o.x a.o.y false false true true c.sides_of-columns.ensures.after c.sides_of-rows.ensures.after,
      omega (arith, c.requires.1.count),
    )

pub dab-two-requires : goal.dab-two-requires
dab-two-requires c =
    let a = c.args in (
      sheet_on c.dab-one.ensures.length c.requires.0,
      place_limits a.s a.o.x a.o.y true false (ltb 0 a.o.x) true c.sides_of-columns.ensures.before c.sides_of-rows.ensures.after,
      omega (arith, c.requires.1.count, c.dab-one.ensures.few),
    )

pub dab-three-requires : goal.dab-three-requires
dab-three-requires c =
    let a = c.args in (
      sheet_on c.dab-two.ensures.length (sheet_on c.dab-one.ensures.length c.requires.0),
      place_limits a.s a.o.x a.o.y false true true (ltb 0 a.o.y) c.sides_of-columns.ensures.after c.sides_of-rows.ensures.before,
      omega (arith, c.requires.1.count, c.dab-one.ensures.few, c.dab-two.ensures.few),
    )

pub dab-requires : goal.dab-requires
dab-requires c =
    let a = c.args in (
      sheet_on c.dab-three.ensures.length (sheet_on c.dab-two.ensures.length (sheet_on c.dab-one.ensures.length c.requires.0)),
      place_limits a.s a.o.x a.o.y true true (ltb 0 a.o.x) (ltb 0 a.o.y) c.sides_of-columns.ensures.before
          c.sides_of-rows.ensures.before,
      omega (arith, c.requires.1.count, c.dab-one.ensures.few, c.dab-two.ensures.few, c.dab-three.ensures.few),
    )

pub returns : goal.returns
returns c =
    let a = c.args in
    mirrored_dabbed a.s a.stamps.now a.o.x a.o.y c.sides_of-columns.ensures c.sides_of-rows.ensures c.requires.0 c.dab-one.ensures
    c.dab-two.ensures c.dab-three.ensures c.dab.ensures
