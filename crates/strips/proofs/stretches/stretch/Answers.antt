-- `stretch` meets its contract: one word under a cover, or the first one, the last one and the words between.
use Prim.Native.Nat.{◌+◌, ◌-◌, ◌/◌, ◌%◌}
use native.Mathlib.Omega.{arith}
use Rattle.strips.proofs.EdgeLaws.{both_cover}
use Rattle.strips.proofs.MixLaws.{word_stretched, ends_stretched}
use Rattle.strips.proofs.stretches.stretch.Goals as goal

pub returns-then-first-last : goal.returns-then-first-last
returns-then-first-last c =
    let a = c.args in
    word_stretched a.strips.now a.phase a.row (a.lo / 16) (a.lo % 16) ((a.hi - 1) % 16 + 1) _ a.lo a.hi c.ink_at-ink.result
    (rw c.strip_at.ensures at c.ink_at-ink.ensures) c.edge.ensures
    (both_cover c.lead_of-lead.ensures c.tail_of-tail.ensures) (omega arith) (omega arith) (omega arith)

pub returns : goal.returns
returns c =
    let a = c.args in
    ends_stretched a.strips.now a.phase a.row a.lo a.hi _ _ c.ink_at-ink.result c.ink_at-ink-2.result
    c.requires.2 (omega (arith, c.requires.2, c.if-first-last.false))
    (rw c.strip_at.ensures at c.ink_at-ink.ensures) c.lead_of-lead.ensures c.edge-2.ensures
    (rw c.strip_at-2.ensures at c.ink_at-ink-2.ensures) c.tail_of-tail.ensures c.edge-3.ensures
    c.words.ensures
