-- What a row shares with the first rows. The invariant: the two flags are the tests joined over the rows passed.
use borrow.Author.Rules.{rules}
use Rattle.model.specs.Ranges.{any_below}
use Rattle.model.specs.Setup.{share_pixel, share_byte}
use Rattle.refusals.specs.Sizes.{some_row}
use Rattle.refusals.proofs.RangeLaws.{some_row_more}
use Rattle.refusals.proofs.table.shared.Goals as goal

pub loop-i-init : goal.loop-i-init
unfolding any_below some_row
loop-i-init c = search rules

pub loop-i-preserved : goal.loop-i-preserved
loop-i-preserved c =
    let r = c.args.r in (
      some_row_more _ _ _ _ (λ s. share_pixel s r) c.share_pixel-pixel.ensures c.loop-i.invariant.0,
      some_row_more _ _ _ _ (λ s. share_byte s r)
          c.share_byte-byte.ensures c.loop-i.invariant.1,
    )
