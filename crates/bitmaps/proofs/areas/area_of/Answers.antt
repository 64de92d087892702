-- `bitmaps::areas::area_of` meets its contract: which buffer, and which surface of it.
use Rattle.bitmaps.proofs.areas.area_of.Goals as goal

pub returns : goal.returns
returns c = rw (c.is_pane.ensures, c.surface_of-surface.ensures)
