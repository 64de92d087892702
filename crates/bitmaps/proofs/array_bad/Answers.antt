-- The tests on an array are the definition's.
use Rattle.model.specs.Faults.{array_bad}
use Rattle.bitmaps.proofs.array_bad.Goals as goal

pub returns : goal.returns
unfolding array_bad
returns c = rw c.bytes_bad.ensures
