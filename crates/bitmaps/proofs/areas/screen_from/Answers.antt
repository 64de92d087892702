-- `bitmaps::areas::screen_from` meets its contract: each part is the definition's.
use Rattle.bitmaps.specs.Areas.{screen_from}
use Rattle.bitmaps.proofs.areas.screen_from.Goals as goal

pub returns : goal.returns
unfolding screen_from
returns c = rw c.row_words.ensures
