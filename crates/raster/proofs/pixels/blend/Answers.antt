-- `blend` meets its contract: the pixel's place lies in the buffer.
use borrow.Author.Rules.{rules}
use Rattle.raster.proofs.BlendLaws.{place_fits, place_in}
use Rattle.raster.proofs.pixels.blend.Goals as goal

pub place_of-place-requires : goal.place_of-place-requires
place_of-place-requires c = search (rules, place_fits)

pub bounds-buffer-at : goal.bounds-buffer-at
bounds-buffer-at c = search (rules, place_in)

pub bounds-buffer-at-2 : goal.bounds-buffer-at-2
bounds-buffer-at-2 c = search (rules, place_in)
