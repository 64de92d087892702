-- `draw_text::cells::grid_by_dots` meets its contract. The loop's invariant: the first rows are painted.
use Rattle.std.proofs.Common.{refl, arith}
use Rattle.model.specs.Ranges.{joined}
use Rattle.canvas.specs.Canvas.{painted_all}
use Rattle.canvas.proofs.LoopLaws.{painting_ready, painting_hits, painting_list}
use Rattle.draw_text.specs.Cells.{row_dots, grid_row}
use Rattle.draw_text.proofs.CellLaws.{rows_length}
use Rattle.draw_text.proofs.cells.grid_by_dots.Goals as goal

pub loop-number-init : goal.loop-number-init
unfolding joined painted_all
loop-number-init c = record { drawn = refl; turn = omega arith }

pub row_by_dots-seen-requires : goal.row_by_dots-seen-requires
row_by_dots-seen-requires c =
    let a = c.args in
    let p = c.requires in (
      painting_ready _ c.loop-number.invariant p.0,
      record { number = omega (arith, c.loop-number-test.true, p.1.height); width = p.1.width },
      omega (
        arith,
        painting_hits _ c.loop-number.invariant,
        rows_length a.t.pen a.style a.g p.1.width c.loop-number.number,
        p.2,
        c.loop-number-test.true,
        p.1.height,
      ),
    )

pub loop-number-preserved : goal.loop-number-preserved
loop-number-preserved c =
    let a = c.args in
    painting_list (λ j. row_dots a.t.pen a.style (grid_row a.g j)) _ c.loop-number.invariant c.loop-number-test.true c.row_by_dots-seen.ensures
