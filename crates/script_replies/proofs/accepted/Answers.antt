-- No values: nothing is written.
use Rattle.script_numerals.specs.Numerals.{comma_separated}
use Rattle.script_numerals.proofs.WroteLaws.{Wrote-none}
use Rattle.script_replies.proofs.accepted.Goals as goal

pub returns-in-Done : goal.returns-in-Done
unfolding comma_separated
returns-in-Done c = rw c.in-Done.is (Wrote-none _ _ c.requires)
