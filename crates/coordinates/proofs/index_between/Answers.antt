-- `coordinates::index_between` meets its contract: a number that passed both tests is an index.
use Rattle.std.proofs.Common.{◌≡◌, false, pos, ap, ◌∙◌, arith, to_z-of_z, w32, to_z, of_z}
use lib.Signed.{lt_z}
use Rattle.coordinates.specs.Offsets.{index_in}
use Rattle.coordinates.proofs.SignedLaws.{small32, pos32, index_low, index_high, index_at}
use Rattle.coordinates.proofs.index_between.Goals as goal
use Rattle.coordinates.proofs.index_between.Goals.{After-along-z, Else-z-lo}

-- the numbers as the machine reads them back
module _ (c : After-along-z) where
  z_read : to_z w32 (of_z w32 c.along-z.result) ≡ c.along-z.result
  z_read = to_z-of_z {w = w32} (small32 c.along-z.type_inv)

  lo_read : to_z w32 c.args.lo ≡ pos c.args.lo
  lo_read = pos32 c.args.lo (omega (arith, c.ranges.lo.fits))

  hi_read : to_z w32 c.args.hi ≡ pos c.args.hi
  hi_read = pos32 c.args.hi (omega (arith, c.ranges.hi.fits))

-- what the first test said, where it failed
from_low : (c : Else-z-lo) → lt_z c.along-z.result (pos c.args.lo) ≡ false
from_low c = rw (z_read c.before, lo_read c.before) at c.if-z-lo.false

pub returns-then-z-lo : goal.returns-then-z-lo
returns-then-z-lo c =
    index_low _ c.args.hi _ (rw (z_read (goal.at.returns-then-z-lo c).After-along-z, lo_read (goal.at.returns-then-z-lo c).After-along-z) at c.if-z-lo.true)
    ∙ ap (index_in c.args.lo c.args.hi) c.along-z.ensures

pub returns-then-z-hi : goal.returns-then-z-hi
returns-then-z-hi c =
    index_high _ _ _ (from_low (goal.at.returns-then-z-hi c).Else-z-lo) (rw (z_read (goal.at.returns-then-z-hi c).After-along-z, hi_read (goal.at.returns-then-z-hi c).After-along-z) at c.if-z-hi.true)
    ∙ ap (index_in c.args.lo c.args.hi) c.along-z.ensures

pub returns : goal.returns
returns c = rw (z_read (goal.at.returns c).After-along-z)
    (index_at _ _ _ (from_low (goal.at.returns c).Else-z-lo) (rw (z_read (goal.at.returns c).After-along-z, hi_read (goal.at.returns c).After-along-z) at c.if-z-hi.false)
    ∙ ap (index_in c.args.lo c.args.hi) c.along-z.ensures)
