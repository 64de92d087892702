-- `stamps::stamps_of` meets its contract: the stamps of both inks are put in their places.
use mathlib.Core.Path.{refl}
use Rattle.stamps.proofs.StampLaws.{stamps_are}
use Rattle.stamps.proofs.stamps_of.Goals as goal

pub returns : goal.returns
returns c =
    stamps_are _ _ _ _ _ c.fore_of-fore.ensures c.back_of-back.ensures c.cover_of-cover.ensures refl c.press.ensures
    c.press-2.ensures
