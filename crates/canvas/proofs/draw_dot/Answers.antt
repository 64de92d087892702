-- `canvas::draw_dot` meets its contract: a coordinate outside the clip draws nothing, else the dot is plotted at its indices.
use mathlib.Core.Path.{sym, ◌∙◌}
use Rattle.model.specs.Coordinates.{at}
use Rattle.model.specs.Dots.{dot}
use Rattle.canvas.specs.Canvas.{canvas, painted}
use Rattle.canvas.proofs.TargetLaws.{index_clipped, painted_outside_x, painted_outside_y}
use Rattle.canvas.proofs.draw_dot.Goals as goal

pub returns-in_default : goal.returns-in_default
returns-in_default c = sym (painted_outside_x _ _ _ (sym c.index_between.ensures ∙ c.in_default.is))

pub returns-in_default-index_between : goal.returns-in_default-index_between
returns-in_default-index_between c = sym (painted_outside_y _ _ _ (sym c.index_between-2.ensures ∙ c.in_default-index_between.is))

pub plot-requires : goal.plot-requires
plot-requires c =
    let ix = index_clipped c.args.t.clip.xmin c.args.t.clip.xmax _ _ (sym c.index_between.ensures ∙ c.in-Some.is) in
    let iy = index_clipped c.args.t.clip.ymin c.args.t.clip.ymax _ _ (sym c.index_between-2.ensures ∙ c.in-Some-index_between.is) in
    let pre = c.requires in
    (pre.0, record { west = ix.low; east = ix.high; north = iy.low; south = iy.high }, pre.3)

pub returns : goal.returns
returns c =
    let ix = index_clipped c.args.t.clip.xmin c.args.t.clip.xmax _ _ (sym c.index_between.ensures ∙ c.in-Some.is) in
    let iy = index_clipped c.args.t.clip.ymin c.args.t.clip.ymax _ _ (sym c.index_between-2.ensures ∙ c.in-Some-index_between.is) in
    let a = c.args in
    c.plot.ensures
    ∙ (λ i. painted a.t (dot (at (sym ix.is i) (sym iy.is i)) a.source) (canvas a.screen.now a.store.now a.hits))
