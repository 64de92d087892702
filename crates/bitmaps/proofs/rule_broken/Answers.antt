-- DEF_BITMAP's rule, variant by variant.
use Rattle.model.specs.Bitmaps.{rule_broken}
use borrow.Author.Rules.{rules}
use Rattle.bitmaps.proofs.rule_broken.Goals as goal

pub returns-in-Absent : goal.returns-in-Absent
unfolding rule_broken
returns-in-Absent c = search rules

pub returns-in-Pane : goal.returns-in-Pane
unfolding rule_broken
returns-in-Pane c = simp c.in-Pane.is c.pane_bitmap_bad.ensures

pub returns-in-Store : goal.returns-in-Store
unfolding rule_broken
returns-in-Store c = simp c.in-Store.is c.store_bitmap_bad.ensures
