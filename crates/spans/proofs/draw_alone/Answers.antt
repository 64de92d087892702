-- `spans::draw_alone` meets its contract: what is to be drawn is drawn.
use Rattle.spans.specs.Spans.{span_changed}
use Rattle.spans.proofs.DrawLaws.{pending_painted}
use Rattle.spans.proofs.draw_alone.Goals as goal

pub returns-in-Some : goal.returns-in-Some
unfolding span_changed
returns-in-Some c = pending_painted (rw c.in-Some.is at c.sighted-seen.ensures) c.args.screen.now c.args.store.now c.draw_part.ensures.0 c.draw_part.ensures.1
