-- `copy8` meets its contract: eight words read, funnelled, mixed and put.
use borrow.Author.Rules.{rules}
use Rattle.strips.proofs.FieldBits.{Bytes}
use Rattle.row_copies.specs.Rows.{source_in}
use Rattle.row_copies.proofs.ChunkLaws.{chunk_copied}
use Rattle.row_copies.proofs.copies.copy8.Goals as goal

pub returns : goal.returns
returns c =
    let a = c.args in
    let e = c.source_in-src.ensures in
    let b : Bytes c.source_in-src.result.now = λ i. search rules in
    chunk_copied a.operator a.c a.w (source_in a.source a.buf.now) a.buf.now (rw e at b) (λ i. search rules)
    c.requires.0 c.requires.1 (rw e at c.words8-x.ensures) (rw e at c.words8-y.ensures) c.funnel8-s.ensures c.words8-old.ensures
    c.mixed8-t.ensures c.put8.ensures
