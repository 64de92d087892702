-- `edge` meets its contract: both bytes of the word are written anew.
use native.Mathlib.Omega.{arith}
use Rattle.strips.proofs.EdgeLaws.{word_edged}
use Rattle.strips.proofs.stretches.edge.Goals as goal

pub returns : goal.returns
returns c =
    let a = c.args in
    word_edged a.at a.ink a.cover a.buf.now c.from_le_bytes-old.result (omega arith)
    (c.slice_known-2-1.given a.at).fits (omega (arith, c.from_le_bytes-old.ensures)) (omega arith) (omega arith) c.to_le_bytes.ensures
