-- `draw_circles::sheets::reflections` meets its contract: (x,y) mirrored, and (y,x) too where it is beside the diagonals.
use Rattle.draw_circles.proofs.MirrorLaws.{diagonal_dabbed, beside_dabbed}
use Rattle.draw_circles.proofs.sheets.reflections.Goals as goal

pub returns-then-o : goal.returns-then-o
returns-then-o c = diagonal_dabbed c.mirrored-n.ensures c.if-o.true

pub returns : goal.returns
returns c = beside_dabbed c.mirrored-n.ensures c.if-o.false c.mirrored.ensures
