-- `draw_text::cells::cells_of` meets its contract.
use Rattle.draw_text.proofs.CellLaws.{cells_are}
use Rattle.draw_text.proofs.cells.cells_of.Goals as goal

pub returns : goal.returns
returns c = cells_are c.args.bits c.args.width c.requires
