-- `draw_copies::move_row` meets its contract: the bits of the row copied are its dots drawn.
use Rattle.std.proofs.Common.{arith, rules}
use Rattle.draw_copies.proofs.RowLaws.{row_starts, bits_fit, row_moved, row_picked}
use Rattle.draw_copies.proofs.move_row.Goals as goal

-- in pick mode
pub returns-then-t : goal.returns-then-t
returns-then-t c =
    let a = c.args in
    row_picked a.t a.m a.j a.screen.now a.store.now c.requires.0 c.requires.1 c.requires.2 a.hits c.if-t.true

pub row_copy_of-c-requires : goal.row_copy_of-c-requires
row_copy_of-c-requires c =
    let a = c.args in
    row_starts a.t a.m a.j a.screen.now a.store.now c.requires.0 c.requires.1 c.requires.2 (omega arith)

pub copy_bits-requires : goal.copy_bits-requires
copy_bits-requires c =
    let a = c.args in
    rw c.row_copy_of-c.ensures (bits_fit a.t a.m a.j a.screen.now a.store.now c.requires.0 c.requires.1 c.requires.2)

pub returns : goal.returns
returns c =
    let a = c.args in
    row_moved a.t a.m a.j a.screen.now a.store.now c.requires.0 c.requires.1 c.requires.2
    (rw c.row_copy_of-c.ensures at c.copy_bits.ensures) (λ k. search rules) (λ k. search rules) (λ k. search rules) (λ k. search rules)
    a.hits c.if-t.false
