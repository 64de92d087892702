-- `traces::walks::spot_of` meets its contract.
use Rattle.std.proofs.Common.{◌≡◌, ◌+◌, ◌%◌, ◌^◌, cond, refl, arith}
use Rattle.traces.proofs.WalkLaws.{SpotSized, spot_sized}
use Rattle.traces.proofs.walks.spot_of.Goals as goal
use Rattle.traces.proofs.walks.spot_of.Goals.{After-step_of-2, then-axes, else-axes}

-- how far the pixel is along x and along y, and the numbers, once the coordinates are known
module _ (c : After-step_of-2) where
  along : (c.if-axes.across.0 ≡ cond c.args.s.axes.level c.args.i c.slope_at-slope.result.at)
      × (c.if-axes.across.1 ≡ cond c.args.s.axes.level c.slope_at-slope.result.at c.args.i)
  along = elim c.if-axes.branch [
    | then-axes w ↦ rw (w.across-is, w.if-axes.true) (refl, refl)
    | else-axes w ↦ rw (w.across-is, w.if-axes.false) (refl, refl)
  ]

  numbers : SpotSized c.args.u c.args.s c.args.i ((c.args.s.x + c.step_of.result) % 2 ^ 64) ((c.args.s.y + c.step_of-2.result) % 2 ^ 64)
  numbers =
      spot_sized c.args.u c.args.s c.args.i c.requires c.slope_at-slope.ensures.at along.0 along.1 c.step_of.ensures c.step_of-2.ensures

pub overflow_sub-before : goal.overflow_sub-before
overflow_sub-before c = omega (arith, (numbers (goal.at.overflow_sub-before c).After-step_of-2).south)

pub overflow_add-before : goal.overflow_add-before
overflow_add-before c = omega (arith, (numbers (goal.at.overflow_add-before c).After-step_of-2).top)

pub overflow_mul-before : goal.overflow_mul-before
overflow_mul-before c = omega (arith, (numbers (goal.at.overflow_mul-before c).After-step_of-2).rows)

pub overflow_mul-before-2 : goal.overflow_mul-before-2
overflow_mul-before-2 c = omega (arith, (numbers (goal.at.overflow_mul-before-2 c).After-step_of-2).rows)

pub overflow_sub-result : goal.overflow_sub-result
overflow_sub-result c = omega (arith, (numbers (goal.at.overflow_sub-result c).After-step_of-2).east)

pub overflow_add-result : goal.overflow_add-result
overflow_add-result c = omega (arith, (numbers (goal.at.overflow_add-result c).After-step_of-2).left)

pub overflow_mul-result : goal.overflow_mul-result
overflow_mul-result c = omega (arith, (numbers (goal.at.overflow_mul-result c).After-step_of-2).bits)

pub overflow_add-result-2 : goal.overflow_add-result-2
overflow_add-result-2 c = omega (arith, (numbers (goal.at.overflow_add-result-2 c).After-step_of-2).bits)

pub returns : goal.returns
returns c =
    let z = numbers (goal.at.returns c).After-step_of-2 in
    rw (z.row, z.column, c.slope_at-slope.ensures.rest)
