-- `spans::stencil_for` meets its contract: the numbers of the visible part are small.
use native.Mathlib.Omega.{arith}
use Rattle.spans.proofs.DrawLaws.{ShortSized, short_columns, short_sized}
use Rattle.spans.proofs.stencil_for.Goals as goal
use Rattle.spans.proofs.stencil_for.Goals.{After-leftmost}

-- the numbers, once the first column is known
module _ (c : After-leftmost) where
  numbers : let a = c.args in ShortSized a.t a.e c.leftmost.result
  numbers = short_sized c.requires c.leftmost.result c.leftmost.ensures

pub leftmost-requires : goal.leftmost-requires
leftmost-requires c =
    let p = c.requires in
    (p.bounded.x, omega (arith, p.bounded.count, p.columns.last, p.some), (short_columns p).reached)

pub overflow_mul-lo : goal.overflow_mul-lo
overflow_mul-lo c = record { fits = omega (arith, (numbers (goal.at.overflow_mul-lo c).After-leftmost).lo) }

pub overflow_add-hi : goal.overflow_add-hi
overflow_add-hi c = let z = numbers (goal.at.overflow_add-hi c).After-leftmost in record { fits = omega (arith, z.lo, z.most) }

pub overflow_mul-turn : goal.overflow_mul-turn
overflow_mul-turn c = record { fits = omega (arith, (numbers (goal.at.overflow_mul-turn c).After-leftmost).pixels) }

pub overflow_add-turn : goal.overflow_add-turn
overflow_add-turn c = record { fits = omega (arith, (numbers (goal.at.overflow_add-turn c).After-leftmost).pixels, c.phase_of.ensures.1) }

pub stencil_of-requires : goal.stencil_of-requires
stencil_of-requires c =
    let z = numbers (goal.at.stencil_of-requires c).After-leftmost in (
      c.requires.depth,
      omega arith,
      omega (arith, z.some),
      omega (arith, z.most),
      omega (arith, z.lo, z.most),
    )
