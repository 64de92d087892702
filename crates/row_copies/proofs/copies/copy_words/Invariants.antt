-- `copy_words` meets its contract: the words from the last chunk or word on are copied, or those before the next one.
use Prim.Native.Nat.{◌+◌, ◌*◌, ◌≤◌}
use Rattle.strips.specs.Stretches.{Stretched}
use Rattle.row_copies.specs.Rows.{copied, source_in}
use Rattle.row_copies.proofs.copies.copy_words.Given as goal

abbrev pub invariant-loop-k : goal.invariant-loop-k
invariant-loop-k l =
    Stretched (copied l.operator l.c (source_in l.source l.fn.buf)) l.c.row (16 * (l.rest + 8 * l.k)) (16 * l.last) l.fn.buf l.buf

abbrev pub invariant-loop-w : goal.invariant-loop-w
invariant-loop-w l =
    Stretched (copied l.operator l.c (source_in l.source l.fn.buf)) l.c.row (16 * l.w) (16 * l.last) l.fn.buf l.buf × (l.first ≤ l.w)

abbrev pub invariant-loop-k-else-back : goal.invariant-loop-k-else-back
invariant-loop-k-else-back l =
    Stretched (copied l.operator l.c (source_in l.source l.fn.buf)) l.c.row (16 * l.first) (16 * (l.first + 8 * l.k)) l.fn.buf l.buf

abbrev pub invariant-loop-w-else-back : goal.invariant-loop-w-else-back
invariant-loop-w-else-back l = Stretched (copied l.operator l.c (source_in l.source l.fn.buf)) l.c.row (16 * l.first) (16 * l.w) l.fn.buf l.buf
