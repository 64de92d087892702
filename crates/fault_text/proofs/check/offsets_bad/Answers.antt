-- `fault_text::check::offsets_bad` meets its contract. The loop's invariant: `bad` is the test of the first k codes' offset words.
use mathlib.Core.Path.{refl, ap, ◌∙◌}
use Prim.Native.Nat.{ℕ}
use Rattle.model.specs.Ranges.{any_below}
use Rattle.model.specs.Faults.{array_bad}
use Rattle.model.proofs.SetupLaws.{any_below_more}
use Rattle.fault_text.specs.Reading.{offset_bad, offsets_bad}
use Rattle.fault_text.proofs.check.offsets_bad.Goals as goal

pub loop-k-init : goal.loop-k-init
unfolding offsets_bad any_below
loop-k-init c = refl

pub loop-k-preserved : goal.loop-k-preserved
unfolding offsets_bad
loop-k-preserved c =
    let a = c.args in
    any_below_more (offset_bad a.r a.active a.store.now a.base a.string) c.loop-k.k
    (c.array_bad-bad.ensures ∙ ap (λ (at : ℕ). array_bad a.r a.active at 2) c.offset_at-at.ensures.0) c.loop-k.invariant
