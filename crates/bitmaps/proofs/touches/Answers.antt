-- Bytes that touch a bitmap, variant by variant.
use mathlib.Core.Path.{◌∙◌}
use Rattle.model.specs.Bitmaps.{touches}
use borrow.Author.Rules.{rules}
use Rattle.bitmaps.proofs.touches.Goals as goal

pub returns-in-Absent : goal.returns-in-Absent
unfolding touches
returns-in-Absent c = search rules

pub returns-in-Pane : goal.returns-in-Pane
unfolding touches
returns-in-Pane c = search rules

pub returns-in-Store : goal.returns-in-Store
unfolding touches
returns-in-Store c = simp c.in-Store.is (c.share_span.ensures ∙ rw c.bitmap_bytes.ensures.0)
