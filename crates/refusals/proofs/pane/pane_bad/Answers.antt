-- Refusal 12's tests are the definition's, in its order.
use Rattle.model.specs.Setup.{pane_bad}
use Rattle.refusals.proofs.pane.pane_bad.Goals as goal

pub returns : goal.returns
unfolding pane_bad
returns c =
    rw (
      c.scissor_stale.ensures,
      c.font_bad.ensures,
      c.clip_outside.ensures,
      c.rule_broken.ensures,
      c.trap_bad.ensures,
      c.progress_bad.ensures,
    )
