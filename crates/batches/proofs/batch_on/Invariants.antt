-- `batches::batch_on` meets its contract. The invariant: with what is left to run, what was done gives the whole run.
use Rattle.batches.proofs.BatchLaws.{Batching}
use Rattle.batches.proofs.batch_on.Given as goal

abbrev pub invariant-loop-count : goal.invariant-loop-count
invariant-loop-count l =
    Batching l.t l.initial.pointer l.initial.position l.budget l.initial.screen l.initial.store l.screen l.store l.pointer l.position l.count l.paint
