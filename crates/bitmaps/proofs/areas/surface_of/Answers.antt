-- `bitmaps::areas::surface_of` meets its contract, by the three cases of a bitmap.
use Rattle.model.specs.Bitmaps.{surface_of, pane_surface, store_surface}
use Rattle.bitmaps.proofs.areas.surface_of.Goals as goal

pub returns-in-Absent : goal.returns-in-Absent
unfolding surface_of
returns-in-Absent c = rw c.in-Absent.is

pub returns-in-Pane : goal.returns-in-Pane
unfolding surface_of pane_surface
returns-in-Pane c =
    rw (c.in-Pane.is, c.row_words.ensures)

pub returns-in-Store : goal.returns-in-Store
unfolding surface_of store_surface
returns-in-Store c = rw (c.in-Store.is, c.row_words-in-Store.ensures)
