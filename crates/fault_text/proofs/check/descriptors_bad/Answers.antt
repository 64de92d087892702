-- `fault_text::check::descriptors_bad` meets its contract. The loop's invariant: `bad` is the test of the first k characters' descriptors.
use mathlib.Core.Path.{refl, ap, ◌∙◌}
use native.Mathlib.Omega.{arith}
use Rattle.model.specs.Ranges.{any_below}
use Rattle.model.specs.Glyphs.{descriptor}
use Rattle.model.specs.Faults.{descriptors_bad}
use Rattle.model.proofs.SetupLaws.{any_below_more}
use Rattle.fault_text.specs.Reading.{descriptor_bad}
use Rattle.fault_text.proofs.CheckLaws.{string_bad_spelt}
use Rattle.fault_text.proofs.check.descriptors_bad.Goals as goal

pub loop-k-init : goal.loop-k-init
unfolding descriptors_bad any_below
loop-k-init c = refl

pub descriptor_of-at-requires : goal.descriptor_of-at-requires
descriptor_of-at-requires c =
    let a = c.args in
    string_bad_spelt a.r a.active a.store.now a.font a.string a.count c.requires.0.long c.requires.1 _ (omega arith)

pub loop-k-preserved : goal.loop-k-preserved
unfolding descriptors_bad
loop-k-preserved c =
    let a = c.args in
    any_below_more (λ k. descriptor_bad a.r a.active a.store.now (descriptor a.font a.store.now a.string k)) c.loop-k.k
    (c.descriptor_bad-bad.ensures ∙ ap (descriptor_bad a.r a.active a.store.now) c.descriptor_of-at.ensures.0) c.loop-k.invariant
