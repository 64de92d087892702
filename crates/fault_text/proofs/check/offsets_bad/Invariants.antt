-- `fault_text::check::offsets_bad` meets its contract. The loop's invariant: `bad` is the test of the first k codes' offset words.
use mathlib.Core.Path.{◌≡◌}
use Rattle.fault_text.specs.Reading.{offsets_bad}
use Rattle.fault_text.proofs.check.offsets_bad.Given as goal

abbrev pub invariant-loop-k : goal.invariant-loop-k
invariant-loop-k l = l.bad ≡ offsets_bad l.r l.active l.store l.base l.string l.k
