-- `canvas::target_of` meets its contract: each part is read from the record.
use Rattle.canvas.specs.Targets.{target_of}
use Rattle.canvas.proofs.target_of.Goals as goal

pub returns : goal.returns
unfolding target_of
returns c = rw (c.truth_of-truth.ensures, c.landing_clip-clip.ensures, c.landing_area-area.ensures)
