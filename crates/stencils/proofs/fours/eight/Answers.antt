-- `stencils::fours::eight` meets its contract: the bits of the number are those of the bytes.
use borrow.Author.Rules.{rules}
use Rattle.stencils.proofs.StencilLaws.{eight_is}
use Rattle.stencils.proofs.fours.eight.Goals as goal

pub returns : goal.returns
returns c =
    let a = c.args in
    eight_is a.buf.now (λ i. (c.type_inv.buf i).fits) a.at _ c.from_fn.result c.from_le_bytes.ensures (search rules)
