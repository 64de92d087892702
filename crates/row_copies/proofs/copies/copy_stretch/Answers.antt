-- `copy_stretch` meets its contract: the word at one end, the words between, the word at the other end.
use Prim.Native.Nat.{◌+◌, ◌*◌}
use native.Mathlib.Omega.{arith}
use Rattle.row_copies.proofs.CopyLaws.{stretched_ends, next_part, part_before}
use Rattle.row_copies.proofs.copies.copy_stretch.Goals as goal

pub returns-then-back : goal.returns-then-back
returns-then-back c =
    let a = c.args.c in
    let e = c.ends_of-e.result in
    let f = rw c.if-back.true at c.requires.2 in
    part_before c.args.operator a c.args.source f
    (part_before c.args.operator a c.args.source f
    (stretched_ends (16 * e.last) (a.to + a.count) (omega arith) (omega arith) c.copy_word-then-back.ensures)
    c.copy_inner.ensures (omega arith) (omega arith) (omega arith) (omega arith))
    (stretched_ends a.to (16 * (e.first + 1)) (omega arith) (omega arith) c.copy_word-then-back-2.ensures)
    (omega arith) (omega arith) (omega arith) (omega arith)

pub returns-else-back : goal.returns-else-back
returns-else-back c =
    let a = c.args.c in
    let e = c.ends_of-e.result in
    let f = rw c.if-back.false at c.requires.2 in
    next_part c.args.operator a c.args.source f
    (next_part c.args.operator a c.args.source f
    (stretched_ends a.to (16 * (e.first + 1)) (omega arith) (omega arith) c.copy_word-else-back.ensures)
    c.copy_inner-else-back.ensures (omega arith) (omega arith) (omega arith) (omega arith))
    (stretched_ends (16 * e.last) (a.to + a.count) (omega arith) (omega arith) c.copy_word-else-back-2.ensures)
    (omega arith) (omega arith) (omega arith) (omega arith)
