-- `fault_text::check::descriptors_bad` meets its contract. The loop's invariant: `bad` is the test of the first k characters' descriptors.
use mathlib.Core.Path.{◌≡◌}
use Rattle.model.specs.Faults.{descriptors_bad}
use Rattle.fault_text.proofs.check.descriptors_bad.Given as goal

abbrev pub invariant-loop-k : goal.invariant-loop-k
invariant-loop-k l = l.bad ≡ descriptors_bad l.r l.active l.store l.font l.string l.k
