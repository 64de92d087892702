-- `copy_words` meets its contract: each chunk and each word is the part before those copied, or behind them.
use mathlib.Core.Path.{◌≡◌}
use Prim.Native.Nat.{◌+◌, ◌-◌, ◌*◌, ◌/◌}
use native.Mathlib.Omega.{arith}
use Rattle.row_copies.proofs.CopyLaws.{stretched_ends, next_part, part_before}
use Rattle.row_copies.proofs.copies.copy_words.Goals as goal

pub loop-k-preserved : goal.loop-k-preserved
loop-k-preserved c =
    let a = c.args in
    let i = c.requires.2 in
    let k = c.loop-k.k in
    let rest = a.last - 8 * ((a.last - a.first) / 8) in
    part_before a.operator a.c a.source (rw c.if-back.true at c.requires.1) c.loop-k.invariant
    (stretched_ends (16 * (rest + 8 * (k - 1))) (16 * (rest + 8 * k)) (omega arith) (omega arith) c.copy8.ensures)
    (omega (arith, i.from)) (omega arith) (omega arith) (omega (arith, i.most))

pub loop-w-preserved : goal.loop-w-preserved
loop-w-preserved c =
    let a = c.args in
    let i = c.requires.2 in
    let w = c.loop-w.w in (
      part_before a.operator a.c a.source (rw c.if-back.true at c.requires.1) c.loop-w.invariant.0
          (stretched_ends (16 * (w - 1)) (16 * w) (omega arith) (omega arith) c.copy_word.ensures)
          (omega (arith, i.from)) (omega arith) (omega arith) (omega (arith, i.most)),
      omega arith,
    )

pub returns-after-loop-w : goal.returns-after-loop-w
returns-after-loop-w c =
    let e : c.loop-w.w ≡ c.args.first = omega arith in
    rw e at c.loop-w.invariant.0

pub loop-k-else-back-preserved : goal.loop-k-else-back-preserved
loop-k-else-back-preserved c =
    let a = c.args in
    let i = c.requires.2 in
    let k = c.loop-k-else-back.k in
    next_part a.operator a.c a.source (rw c.if-back.false at c.requires.1) c.loop-k-else-back.invariant
    (stretched_ends (16 * (a.first + 8 * k)) (16 * (a.first + 8 * (k + 1))) (omega arith) (omega arith) c.copy8-in-loop-k-else-back.ensures)
    i.from (omega arith) (omega arith) (omega (arith, i.most))

pub loop-w-else-back-preserved : goal.loop-w-else-back-preserved
loop-w-else-back-preserved c =
    let a = c.args in
    let i = c.requires.2 in
    let w = c.loop-w-else-back.w in
    next_part a.operator a.c a.source (rw c.if-back.false at c.requires.1) c.loop-w-else-back.invariant
    (stretched_ends (16 * w) (16 * (w + 1)) (omega arith) (omega arith) c.copy_word-in-loop-w-else-back.ensures)
    i.from (omega arith) (omega arith) (omega (arith, i.most))
