-- `draw_circles::sides::sides_of` meets its contract: both sides are known to lie in the limits, or each is tested.
use mathlib.Core.Path.{sym}
use mathlib.Core.Bool.{true, false}
use lib.Dec.{ltb}
use Rattle.model.proofs.Decisions.{and_true}
use Rattle.draw_circles.proofs.sides.sides_of.Goals as goal

pub returns-then-inside : goal.returns-then-inside
returns-then-inside c =
    let i = c.requires.1 c.if-inside.true in
    record {
      after = record { at = c.biased-first.ensures.0; on = sym (i.each false) };
      before = record { at = c.biased-second.ensures.0; on = sym (and_true (ltb 0 c.args.k) _ (i.each true)) };
    }
