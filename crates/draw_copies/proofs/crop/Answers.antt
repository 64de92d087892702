-- `draw_copies::crop` meets its contract: what lies between the edges is the extent.
use Rattle.std.proofs.Common.{arith}
use Rattle.draw_copies.proofs.CropLaws.{first_high, cropped_some}
use Rattle.draw_copies.proofs.crop.Goals as goal

pub overflow_sub-result-then-e : goal.overflow_sub-result-then-e
overflow_sub-result-then-e c =
    let b = c.biased-from in
    let a = c.args in
    omega (arith, first_high a.lo a.hi a.at a.n b.result _ b.ensures.0 c.edges_between-e.ensures c.if-e.true)

-- some lie in the clip
pub returns-then-e : goal.returns-then-e
returns-then-e c =
    let b = c.biased-from in
    let a = c.args in
    cropped_some a.lo a.hi a.at a.n b.result _ b.ensures.0 c.edges_between-e.ensures (omega arith) c.if-e.true
