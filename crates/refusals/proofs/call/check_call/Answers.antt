-- Once set-up refuses nothing, there are at most 8 rows, so that a pane below their number has a row and a record.
use mathlib.Core.Path.{sym}
use native.Mathlib.Omega.{arith}
use borrow.Author.Rules.{rules}
use Rattle.model.proofs.SetupLaws.{checks_say}
use Rattle.refusals.proofs.call.check_call.Goals as goal

pub bounds-c-k : goal.bounds-c-k
bounds-c-k c = let n = (checks_say _ _ _ _ _ (sym (c.in_ok-check_setup.ensures))).geometry.count in search rules

pub bounds-c-k-2 : goal.bounds-c-k-2
bounds-c-k-2 c = let n = (checks_say _ _ _ _ _ (sym (c.in_ok-check_setup.ensures))).geometry.count in search rules

-- a rectangle on the screen has its corner there
pub pane_bad-requires : goal.pane_bad-requires
pane_bad-requires c =
    let v = checks_say _ _ _ _ _ (sym (c.in_ok-check_setup.ensures)) in
    let q = v.rectangle _ c.if-c-number.false in
    record { left = omega (arith, q.right, v.geometry.width); top = omega (arith, q.bottom, v.geometry.height) }
