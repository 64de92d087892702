-- `grids::transposed` meets its contract.
use Rattle.grids.proofs.TransposeLaws.{transposed_is}
use Rattle.grids.proofs.transposed.Goals as goal

pub returns : goal.returns
returns c =
    transposed_is c.four_rows.ensures c.four_rows-3.ensures c.four_rows-2.ensures
    c.four_rows-4.ensures c.exchanged-a.ensures c.exchanged-b.ensures c.exchanged-c.ensures c.exchanged-d.ensures
    c.inner.ensures c.inner-2.ensures c.inner-3.ensures c.inner-4.ensures
    c.with_rows-t.ensures c.with_rows-t-2.ensures c.with_rows-t-3.ensures c.with_rows.ensures
