-- The tests on bytes of the store are the definition's.
use Rattle.bitmaps.proofs.bytes_bad.Goals as goal

pub returns : goal.returns
returns c = rw (c.touches.ensures, c.passes_end.ensures)
