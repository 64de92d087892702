-- A shift brings the bit to the lowest place.
use mathlib.Core.Path.{ap, ◌∙◌}
use native.Mathlib.Nat.{add-zero}
use Rattle.model.specs.Words.{bit}
use Rattle.model.proofs.BitLaws.{bit_shr}
use Rattle.words.proofs.bit_of.Goals as goal

pub returns : goal.returns
unfolding bit
returns c = bit_shr c.args.w c.args.k 0 ∙ ap (bit c.args.w) (add-zero c.args.k)
