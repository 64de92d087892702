-- `draw_circles::sheets::dab` meets its contract: no dot, or a dot stamped.
use mathlib.Core.Path.{◌≡◌}
use mathlib.Core.Bool.{true, ◌&&◌}
use native.Mathlib.Omega.{arith}
use Rattle.draw_circles.specs.Sheets.{InLimits}
use Rattle.draw_circles.proofs.SheetLaws.{DabSized, dab_sized, dab_in, dab_stamped, dab_off}
use Rattle.draw_circles.proofs.sheets.dab.Goals as goal
use Rattle.draw_circles.proofs.sheets.dab.Goals.{After-slice_known-1, After-u-1}

is_on : (c : After-u-1) → (c.args.x.on && c.args.y.on) ≡ true
is_on c = c.if-not-x-y.false

module _ (c : After-u-1) where
  limits : InLimits c.args.s c.args.x.at c.args.y.at
  limits = c.requires.1 (is_on c)

  numbers : let a = c.args in DabSized a.s a.stamps.now a.buffer.now a.x.at a.y.at c.requires.0 limits
  numbers = let a = c.args in dab_sized a.s a.stamps.now a.buffer.now a.x.at a.y.at c.requires.0 limits

pub returns-then-not-x-y : goal.returns-then-not-x-y
returns-then-not-x-y c =
    let a = c.args in
    rw (c.if-not-x-y.true) (dab_off a.s a.stamps.now a.buffer.now a.x.at a.y.at a.hits)

pub overflow_add-row : goal.overflow_add-row
overflow_add-row c = let z = numbers (goal.at.overflow_add-row c).After-u-1 in omega (arith, z.down)

pub stamp-requires : goal.stamp-requires
stamp-requires c =
    let a = c.args in
    (c.requires.0.table, omega arith, dab_in a.s a.stamps.now a.buffer.now a.x.at a.y.at c.requires.0 (limits (goal.at.stamp-requires c).After-u-1))

pub returns : goal.returns
returns c =
    let a = c.args in
    rw (is_on (goal.at.returns c).After-u-1)
    (dab_stamped a.s a.stamps.now a.buffer.now a.x.at a.y.at c.requires.0 (limits (goal.at.returns c).After-u-1)
    (λ j. (c.type_inv.stamps j).fits) (λ j. ((goal.at.returns c).After-slice_known-1.type_inv.buffer j).fits) a.hits c.stamp.ensures)
