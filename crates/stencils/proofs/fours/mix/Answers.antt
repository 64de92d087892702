-- `stencils::fours::mix` meets its contract: the number that is put is the old one mixed under the cover.
use Rattle.stencils.proofs.StencilLaws.{put_mixed}
use Rattle.stencils.proofs.fours.mix.Goals as goal

pub returns : goal.returns
returns c =
    let a = c.args in
    put_mixed a.at a.ink a.cover c.eight-old.result c.mux.result a.buf.now _ c.eight-old.ensures c.mux.ensures c.put.ensures
