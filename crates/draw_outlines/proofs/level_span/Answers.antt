-- `draw_outlines::level_span` meets its contract: the span from the side's first pixel has the side's pixels.
use Rattle.draw_outlines.proofs.SideLaws.{level_side}
use Rattle.draw_outlines.proofs.level_span.Goals as goal

pub returns : goal.returns
returns c =
    let x = c.biased-x.ensures in
    let y = c.biased-y.ensures in
    let e = c.outline_offset-start.ensures.0 in
    level_side c.args.o c.args.s x.1 y.1 (rw e at x.0) (rw e at y.0) c.requires.0 c.requires.1
