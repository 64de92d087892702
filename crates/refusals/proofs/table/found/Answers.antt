-- What the first rows have of the faults 8 to 11. The invariant: the four flags are the tests joined over the rows passed.
use borrow.Author.Rules.{rules}
use Rattle.model.specs.Ranges.{any_below}
use Rattle.model.specs.Setup.{rectangle_bad, store_bad, share_pixel, share_byte}
use Rattle.refusals.specs.Sizes.{some_row, some_pair}
use Rattle.refusals.proofs.RangeLaws.{some_row_more, some_pair_more}
use Rattle.refusals.proofs.table.found.Goals as goal

pub loop-j-init : goal.loop-j-init
unfolding any_below some_row some_pair
loop-j-init c = search rules

pub loop-j-preserved : goal.loop-j-preserved
loop-j-preserved c =
    let a = c.args in
    let f = c.loop-j.invariant in
    let s = c.shared-s.ensures in
    record {
      rectangle = some_row_more _ _ _ _ (rectangle_bad a.g) c.rectangle_bad-rectangle.ensures f.rectangle;
      store = some_row_more _ _ _ _ (store_bad a.stores) c.store_bad-store.ensures f.store;
      pixel = some_pair_more _ _ _ _ share_pixel s.0 f.pixel;
      byte = some_pair_more _ _ _ _ share_byte s.1 f.byte;
    }
