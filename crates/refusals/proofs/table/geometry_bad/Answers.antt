-- Refusal 6's tests are the definition's, in its order.
use Rattle.model.specs.Setup.{geometry_bad}
use Rattle.refusals.proofs.table.geometry_bad.Goals as goal

pub returns : goal.returns
unfolding geometry_bad
returns c = rw (c.out_of-3.ensures, c.is_depth.ensures, c.out_of-2.ensures, c.out_of.ensures)
