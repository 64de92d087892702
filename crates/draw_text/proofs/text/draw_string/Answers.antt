-- `draw_text::text::draw_string` meets its contract. The loop's invariant: what is left of the string, drawn on from here, gives the whole.
use Rattle.std.proofs.Common.{◌<◌, arith, rules}
use Rattle.draw_text.proofs.LegibleLaws.{legible_spelt}
use Rattle.draw_text.proofs.WritingLaws.{writing_ready, writing_next, writing_last}
use Rattle.draw_text.proofs.text.draw_string.Goals as goal

pub descriptor_of-at-requires : goal.descriptor_of-at-requires
descriptor_of-at-requires c =
    legible_spelt c.loop-k.invariant.agree c.loop-k.invariant.lengths.store c.requires.legible c.loop-k.k c.loop-k-test.true

pub character-d-requires : goal.character-d-requires
character-d-requires c =
    let few : c.args.c.count < 65536 = search rules in (
      writing_ready _ _ _ _ _ _ c.loop-k.invariant c.requires c.loop-k-test.true _ c.descriptor_of-at.ensures.0 few,
      c.requires.oriented,
    )

pub loop-k-preserved : goal.loop-k-preserved
loop-k-preserved c =
    writing_next _ _ _ _ _ _ c.loop-k.invariant c.requires c.loop-k-test.true _ c.descriptor_of-at.ensures.0 c.character-d.ensures

pub returns : goal.returns
returns c = writing_last _ _ _ _ _ _ c.loop-k.invariant (omega arith)
