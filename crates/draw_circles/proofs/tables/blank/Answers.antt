-- `draw_circles::tables::blank` meets its contract: the first 32 bytes are filled, the others are 0.
use Rattle.std.proofs.Common.{refl, rules}
use Rattle.draw_circles.proofs.TableLaws.{blank_is}
use Rattle.draw_circles.proofs.tables.blank.Goals as goal

pub returns : goal.returns
returns c = rw (c.fill.ensures.after (λ y e. search rules)) (refl, blank_is)
