-- `copy_word` meets its contract: the bits fetched for the word are put under its cover.
use Rattle.row_copies.specs.Rows.{source_in}
use Rattle.row_copies.proofs.CopyLaws.{supplied, word_copied}
use Rattle.row_copies.proofs.copies.copy_word.Goals as goal

pub returns : goal.returns
returns c =
    let a = c.args in
    let p = c.requires in
    let s = source_in a.source a.buf.now in
    word_copied a.operator a.c a.word a.lead a.tail s p.1 c.cover_of.ensures c.ink_over-ink.ensures c.edge.ensures
    (supplied a.c s p.1 p.0.source (rw c.source_in.ensures at c.fetched-bits.ensures))
