-- `spans::edges_of` meets its contract: a row outside the clip has no pixel in it, and in a row of the clip the columns decide.
use Rattle.spans.proofs.EdgesLaws.{row_inside}
use Rattle.spans.proofs.edges_of.Goals as goal

pub returns : goal.returns
returns c =
    row_inside _ _ c.requires.0 c.requires.1 c.args.s c.if-s-clip.false c.if-s-clip-2.false _ c.edges_between.ensures
