-- `processor::advance` meets its contract: a batch that is not empty, or the command tried on buffers that an empty one left as they were.
use mathlib.Core.Path.{◌∙◌}
use native.Mathlib.Omega.{arith}
use Rattle.processor.proofs.AdvanceLaws.{advance_obey}
use Rattle.processor.proofs.advance.Goals as goal
use Rattle.processor.proofs.advance.Goals.{After-slice_known-2-1}

pub returns : goal.returns
returns c =
    let same = c.batch_from-b.ensures.none (omega (arith, c.if-b-gt0.false)) in
    advance_obey c.requires (λ k. ((goal.at.returns c).After-slice_known-2-1.type_inv.store k).fits) same.0 same.1
    (c.obey.auto.screen ∙ c.batch_from-b.auto.screen) (c.obey.auto.store ∙ c.batch_from-b.auto.store) c.obey.ensures
