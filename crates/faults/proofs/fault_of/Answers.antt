-- What the arms that read the store ask: the addresses that the command holds have 22 bits.
use mathlib.Core.Path.{subst}
use native.Mathlib.Omega.{arith}
use Rattle.model.specs.Commands.{Addressed, pairs_at, triples_at}
use Rattle.faults.proofs.CheckingLaws.{string_addressed}
use Rattle.faults.proofs.fault_of.Goals as goal

pub array_fault-requires : goal.array_fault-requires
array_fault-requires c = (subst Addressed c.in-Polyline.is c.requires.1 _ pairs_at, omega arith)

pub char_fault-requires : goal.char_fault-requires
char_fault-requires c = string_addressed c.in-Char.is c.requires.0 c.requires.1

pub array_fault-requires-in-ScanLines : goal.array_fault-requires-in-ScanLines
array_fault-requires-in-ScanLines c = (subst Addressed c.in-ScanLines.is c.requires.1 _ triples_at, omega arith)
