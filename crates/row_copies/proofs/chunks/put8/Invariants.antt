-- `put8` meets its contract: the words before j are put.
use Rattle.row_copies.specs.Chunks.{Put8}
use Rattle.row_copies.proofs.chunks.put8.Given as goal

abbrev pub invariant-loop-j : goal.invariant-loop-j
invariant-loop-j l = Put8 l.at l.t l.j l.initial.buf l.buf
