-- `processor::run` meets its contract. The invariant: what is left to run gives the same end, the pane is sound, the commands counted and the
-- budget left are at most the budget, and each command drew at most the most pixels. The measure is the budget left.
use Rattle.processor.proofs.RunningLaws.{Running}
use Rattle.processor.proofs.run.Given as goal

abbrev pub invariant-loop-rest : goal.invariant-loop-rest
invariant-loop-rest l = Running l.f.geometry l.f.row l.budget l.initial.q l.initial.screen l.initial.store l.screen l.store l.q l.count l.paint l.rest

abbrev pub decreases-loop-rest : goal.decreases-loop-rest
decreases-loop-rest l = l.rest
