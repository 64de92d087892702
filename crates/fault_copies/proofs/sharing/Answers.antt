-- `fault_copies::sharing` meets its contract, by the source's bitmap.
use mathlib.Core.Path.{sym, ap, ◌∙◌}
use mathlib.Core.Bool.{Bool}
use Rattle.model.specs.declared.Bitmap.{Bitmap}
use Rattle.model.specs.Copies.{rectangle_of, sharing}
use Rattle.fault_copies.proofs.SharingLaws.{sharing_pane}
use Rattle.fault_copies.proofs.sharing.Goals as goal
use Rattle.fault_copies.proofs.sharing.Goals.{Start}

-- what is asked for
abbrev asked : Start → Bitmap → Bool
asked s b = sharing s.args.active b s.args.s (rectangle_of s.args.b)

-- no bitmap
pub returns-in-Absent : goal.returns-in-Absent
unfolding sharing
returns-in-Absent c = sym (ap (asked (goal.at.returns-in-Absent c).Start) c.in-Absent.is)

-- the pane
pub returns-in-Pane : goal.returns-in-Pane
returns-in-Pane c =
    c.is_pane.ensures
    ∙ sym (ap (asked (goal.at.returns-in-Pane c).Start) c.in-Pane.is ∙ sharing_pane c.args.active _ _ _ c.args.s (rectangle_of c.args.b))

-- a bitmap of the store
pub returns-in-Store : goal.returns-in-Store
unfolding sharing
returns-in-Store c = c.rows_touch.ensures ∙ sym (ap (asked (goal.at.returns-in-Store c).Start) c.in-Store.is)
