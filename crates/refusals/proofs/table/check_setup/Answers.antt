-- Refusal 6 first; once it does not apply, the sizes are small enough for the others.
use mathlib.Core.Path.{sym, ◌∙◌}
use Rattle.model.specs.Setup.{checks}
use Rattle.refusals.specs.Sizes.{some_row, some_pair, table_checks}
use Rattle.refusals.proofs.SizeLaws.{geometry_bad_sized}
use Rattle.refusals.proofs.table.check_setup.Goals as goal

pub returns-then-geometry_bad : goal.returns-then-geometry_bad
unfolding checks
returns-then-geometry_bad c = simp (sym c.geometry_bad.ensures ∙ c.if-geometry_bad.true)

pub check_table-requires : goal.check_table-requires
check_table-requires c = geometry_bad_sized _ _ (sym c.geometry_bad.ensures ∙ c.if-geometry_bad.false)

pub returns : goal.returns
unfolding checks table_checks some_row some_pair
returns c = simp (sym c.geometry_bad.ensures ∙ c.if-geometry_bad.false) c.check_table.ensures
