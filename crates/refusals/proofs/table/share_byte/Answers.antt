-- Two stores share a byte where their spans share a number.
use Rattle.model.specs.Setup.{share_byte}
use Rattle.refusals.proofs.table.share_byte.Goals as goal

pub returns : goal.returns
unfolding share_byte
returns c = cc
