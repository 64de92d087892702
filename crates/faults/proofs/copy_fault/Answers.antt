-- The rule first; then the rectangle on the source's surface, which that rule makes readable; last the bytes in common.
use mathlib.Core.Path.{sym, ◌∙◌}
use Rattle.faults.proofs.CopyLaws.{source_readable}
use Rattle.faults.proofs.copy_fault.Goals as goal

pub sharing-requires : goal.sharing-requires
sharing-requires c = (
  source_readable _ _ _ _ c.requires.0 c.requires.1
      c.surface_of-s.ensures (sym c.rule_broken.ensures ∙ c.if-rule_broken.false),
  sym c.block_bad.ensures ∙ c.if-block_bad.false,
)
