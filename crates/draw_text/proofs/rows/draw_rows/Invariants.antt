-- `draw_text::rows::draw_rows` meets its contract. The loop's invariant: the rows so far are drawn, whatever grid they are of.
use Rattle.std.proofs.Common.{◌≡◌, ◌-◌}
use Rattle.model.specs.Pixels.{changes}
use Rattle.model.specs.Dots.{changes_of}
use Rattle.strips.proofs.FieldBits.{Bytes}
use Rattle.draw_text.specs.declared.cells.Grid.{Grid}
use Rattle.draw_text.specs.Cells.{rows_from}
use Rattle.draw_text.specs.Rows.{RowsMet}
use Rattle.draw_text.proofs.rows.draw_rows.Given as goal

abbrev pub invariant-loop-number : goal.invariant-loop-number
invariant-loop-number l = record {
  drawn : (g : Grid) → g.width ≡ l.plan.span.count → RowsMet l.plan.span.left g.cells l.met
      → l.buf ≡ changes l.t.area.surface (changes_of l.t.area.surface l.t.clip l.t.pen
      (rows_from l.t.pen l.style g l.fn.f.first (l.number - l.fn.f.first))) l.initial.buf;
  bytes : Bytes l.buf;
}
