-- `draw_text::cells::row_by_dots` meets its contract. The loop's invariant: the first i cells of the row are painted.
use Rattle.std.proofs.Common.{refl, ap, ◌∙◌, arith}
use Rattle.model.specs.Ranges.{listed}
use Rattle.model.specs.Pixels.{pen_source}
use Rattle.model.specs.Dots.{dot}
use Rattle.canvas.specs.Canvas.{painted_all}
use Rattle.canvas.specs.Targets.{place_on}
use Rattle.canvas.proofs.CanvasLaws.{listed_length}
use Rattle.canvas.proofs.LoopLaws.{painting_ready, painting_hits, painting_dot}
use Rattle.draw_text.specs.Cells.{cell_dot}
use Rattle.draw_text.proofs.cells.row_by_dots.Goals as goal

pub loop-i-init : goal.loop-i-init
unfolding listed painted_all
loop-i-init c = record { drawn = refl; turn = omega arith }

pub draw_dot-seen-requires : goal.draw_dot-seen-requires
draw_dot-seen-requires c =
    let i = c.loop-i.i in
    let a = c.args in
    let p = c.requires in (
      painting_ready _ c.loop-i.invariant p.0,
      omega (arith, c.loop-i-test.true, p.1.width),
      omega (arith, p.1.number),
      omega (arith, painting_hits _ c.loop-i.invariant, listed_length 0 i (cell_dot a.t.pen a.style a.row), p.2, p.1.width, c.loop-i-test.true),
    )

pub loop-i-preserved : goal.loop-i-preserved
loop-i-preserved c =
    let a = c.args in
    painting_dot (cell_dot a.t.pen a.style a.row) _ c.loop-i.invariant c.loop-i-test.true
    (λ n. dot (place_on a.style.course (record { x = c.loop-i.i; y = a.row.number }))
    ((c.pen_source-source.ensures ∙ ap (pen_source a.t.pen a.style.transparent) c.bit_of-on.ensures) n))
    c.draw_dot-seen.ensures
