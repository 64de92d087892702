-- What the first rows have of the faults 8 to 11. The invariant: the four flags are the tests joined over the rows passed.
use Rattle.refusals.specs.Sizes.{Found}
use Rattle.refusals.proofs.table.found.Given as goal

abbrev pub invariant-loop-j : goal.invariant-loop-j
invariant-loop-j l = Found l.stores l.g l.rows l.j (record { rectangle = l.rectangle; store = l.store; pixel = l.pixel; byte = l.byte })
