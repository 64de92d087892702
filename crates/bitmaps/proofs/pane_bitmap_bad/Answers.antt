-- The tests on the pane's bitmap are the definition's.
use Rattle.model.specs.Bitmaps.{pane_bitmap_bad}
use borrow.Author.Rules.{rules}
use Rattle.bitmaps.proofs.pane_bitmap_bad.Goals as goal

pub returns : goal.returns
unfolding pane_bitmap_bad
returns c = search rules
