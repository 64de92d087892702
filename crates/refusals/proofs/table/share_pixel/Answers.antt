-- Two rectangles share a pixel where their columns and their rows share a number.
use Rattle.model.specs.Setup.{share_pixel}
use Rattle.refusals.proofs.table.share_pixel.Goals as goal

pub returns : goal.returns
unfolding share_pixel
returns c = rw (c.share_span-2.ensures, c.share_span.ensures)
