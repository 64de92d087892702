-- `words` meets its contract: the strip of the first word, again and again.
use native.Mathlib.Omega.{arith}
use Rattle.strips.proofs.MixLaws.{words_stretched, bare_stretched, strip_closing}
use Rattle.strips.proofs.stretches.words.Goals as goal

pub cover-requires : goal.cover-requires
cover-requires c =
    let a = c.args in (
      omega arith,
      omega arith,
      strip_closing a.strips.now _ _ a.phase a.row a.from a.end c.requires.0 (omega arith)
          c.strip_at-at.ensures c.sixteen-flip.ensures c.strip_at-close.ensures c.sixteen.ensures,
    )

pub returns-then-from-end : goal.returns-then-from-end
returns-then-from-end c =
    let a = c.args in
    bare_stretched a.strips.now _ a.phase a.row a.from a.end c.requires.0 c.if-strips-eq1.true
    c.strip_at-at.ensures c.sixteen-flip.ensures c.cover.ensures

pub returns-else-strips-eq1 : goal.returns-else-strips-eq1
returns-else-strips-eq1 c =
    let a = c.args in
    words_stretched a.strips.now _ _ a.phase a.row a.from a.end c.requires.0
    c.strip_at-at.ensures c.sixteen-else-strips-eq1.ensures c.sixteen-flip.ensures c.fill.ensures
