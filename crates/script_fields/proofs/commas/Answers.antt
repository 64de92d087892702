-- The line is cut at each comma.
use Rattle.std.proofs.Common.{arith}
use Rattle.std.proofs.lemmas.List.Splits.{length-slice_split}
use Rattle.script_fields.proofs.commas.Goals as goal

pub returns : goal.returns
returns c = grind (arith, length-slice_split)
