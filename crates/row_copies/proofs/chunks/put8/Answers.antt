-- `put8` meets its contract: the words before j are put.
use native.Mathlib.Omega.{arith}
use Rattle.row_copies.proofs.ChunkLaws.{put8_next}
use Rattle.row_copies.proofs.chunks.put8.Goals as goal

pub loop-j-preserved : goal.loop-j-preserved
loop-j-preserved c =
    let a = c.args in
    put8_next a.at a.t c.loop-j.j a.buf.now c.loop-j.buf c.loop-j.invariant (omega (arith, c.loop-j.invariant.length))
    c.half_of.ensures c.half_of-in-loop-j.ensures
