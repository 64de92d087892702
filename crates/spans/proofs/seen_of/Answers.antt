-- `spans::seen_of` meets its contract: under transparency the pattern's 1s are counted.
use mathlib.Core.Path.{◌∙◌}
use Rattle.spans.proofs.DrawLaws.{seen_from}
use Rattle.spans.proofs.seen_of.Goals as goal

pub returns-then-pen : goal.returns-then-pen
returns-then-pen c =
    let a = c.args in
    rw c.if-pen.true (c.counted.ensures ∙ seen_from a.pen.pattern a.index a.n)
