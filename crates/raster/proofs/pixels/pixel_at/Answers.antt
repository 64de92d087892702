-- `pixel_at` meets its contract: the pixel's place lies in the buffer.
use borrow.Author.Rules.{rules}
use Rattle.raster.proofs.BlendLaws.{place_fits, place_in}
use Rattle.raster.proofs.pixels.pixel_at.Goals as goal

pub place_of-place-requires : goal.place_of-place-requires
place_of-place-requires c = search (rules, place_fits)

pub bounds-buffer-at : goal.bounds-buffer-at
bounds-buffer-at c = search (rules, place_in)
