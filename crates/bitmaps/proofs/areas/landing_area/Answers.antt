-- `bitmaps::areas::landing_area` meets its contract, by the three cases of a bitmap.
use Rattle.bitmaps.proofs.areas.landing_area.Goals as goal

pub returns-in-Absent : goal.returns-in-Absent
returns-in-Absent c = rw (c.area_of.ensures, c.in-Absent.is)

pub returns-in-Pane : goal.returns-in-Pane
returns-in-Pane c = rw (c.in-Pane.is, c.screen_from-surface.ensures)

pub returns-in-Store : goal.returns-in-Store
returns-in-Store c = rw (c.area_of-in-Store.ensures, c.in-Store.is)
