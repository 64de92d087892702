-- `copy_inner` meets its contract: words copied, or bytes carried from the source's buffer.
use mathlib.Core.Path.{sym, ◌∙◌}
use Rattle.row_copies.proofs.CarryLaws.{carried_copied}
use Rattle.row_copies.proofs.copies.copy_inner.Goals as goal

pub returns-in-Some : goal.returns-in-Some
returns-in-Some c =
    let a = c.args in
    rw c.in-Some.is (carried_copied a.operator a.c a.first a.last c.requires.1 (sym c.in_phase.ensures ∙ c.if-not-in_phase.false)
    c.requires.3 c.carry.ensures)

pub returns-in-None : goal.returns-in-None
returns-in-None c =
    let a = c.args in
    rw c.in-None.is (carried_copied a.operator a.c a.first a.last c.requires.1 (sym c.in_phase.ensures ∙ c.if-not-in_phase.false)
    c.requires.3 c.carry_within.ensures)
