-- `traces::lone_trace` meets its contract: what is to be drawn is drawn.
use Rattle.spans.proofs.DrawLaws.{pending_painted}
use Rattle.traces.specs.Walks.{traced}
use Rattle.traces.proofs.lone_trace.Goals as goal

pub returns-in-Some : goal.returns-in-Some
unfolding traced
returns-in-Some c = pending_painted (rw c.in-Some.is at c.sighted-seen.ensures) c.args.screen.now c.args.store.now c.draw_part.ensures.0 c.draw_part.ensures.1
