-- `draw_text::rows::draw_grid` meets its contract: a grid beside or below the clip draws nothing, pick mode only counts, else the rows in the clip are
-- drawn, or all dots where the buffer ends too early.
use Rattle.std.proofs.Common.{cond, ◌≡◌, ℕ, ◌-◌, List, length, sym, ◌∙◌, subst, arith}
use Rattle.model.specs.Dots.{Dot, hits}
use Rattle.model.proofs.Decisions.{cond_true, cond_false}
use Rattle.canvas.specs.Canvas.{canvas, painted_all}
use Rattle.canvas.proofs.BufferLaws.{picked_painted, screen_painted, store_painted}
use Rattle.draw_text.specs.declared.rows.RowPlan.{RowPlan}
use Rattle.draw_text.specs.Cells.{rows_from, grid_dots}
use Rattle.draw_text.specs.Rows.{Planned, RowsPlanned, SomeCells, seen_in}
use Rattle.draw_text.proofs.RowLaws.{grid_beside, grid_below, rows_whole, rows_planned, rows_seen, seen_most, alone}
use Rattle.draw_text.proofs.rows.draw_grid.Goals as goal
use Rattle.draw_text.proofs.rows.draw_grid.Goals.{After-stencil_for-stencil, Joined-area, then-area, else-area}

abbrev plan : After-stencil_for-stencil → RowPlan
plan c = record {
  span = c.first_span-span.result;
  edges = c.edges_between-edges.result;
  stencil = c.stencil_for-stencil.result;
}

-- the plan of all rows
module _ (c : After-stencil_for-stencil) where
  columns : Planned c.args.t c.args.style c.args.g.width (plan c)
  columns =
      record {
        span = c.first_span-span.ensures;
        columns = c.edges_between-edges.ensures;
        some = omega (arith, c.edges_between-edges.ensures.ordered, c.if-edges.false);
        stencil = rw c.aim_at.ensures at c.stencil_for-stencil.ensures;
      }

  planned : RowsPlanned c.args.t c.args.style (plan c) c.edges_between-f.result
  planned =
      let b = c in
      let s = c.first_span-span.ensures in
      rows_planned (subst (λ (n : ℕ). Planned b.args.t b.args.style n (plan c)) (sym s.count) columns)
      (omega (arith, s.count, b.requires.1.width)) b.requires.0.east c.edges_between-f.ensures b.requires.1.height
      (omega (arith, c.edges_between-f.ensures.ordered, c.if-f.false))

  some : SomeCells (plan c).edges c.edges_between-f.result
  some = record {
    columns = columns.some;
    width = omega (arith, columns.columns.last, planned.width);
    rows = planned.some;
    height = planned.last;
  }

-- the dots of the rows in the clip
abbrev visible : After-stencil_for-stencil → List Dot
visible c =
    let a = c.args in
    let f = c.edges_between-f.result in
    rows_from a.t.pen a.style a.g f.first (f.second - f.first)

-- .. painted, are the grid
module _ (c : After-stencil_for-stencil) where
  whole : let a = c.args in
      painted_all a.t (visible c) (canvas a.screen.now a.store.now a.hits)
      ≡ painted_all a.t (grid_dots a.t.pen a.style a.g) (canvas a.screen.now a.store.now a.hits)
  whole =
      let a = c.args in
      rows_whole a.t a.style c.requires.0.east c.requires.0.south a.g c.first_span-span.ensures c.edges_between-f.result
      c.edges_between-f.ensures (canvas a.screen.now a.store.now a.hits)

  -- .. and so many of them are visible
  counted : let a = c.args in
      hits a.t.area.surface a.t.clip (visible c) ≡ seen_in a.style.transparent a.g.cells (plan c).edges c.edges_between-f.result
  counted =
      let a = c.args in
      rows_seen a.t a.style (plan c) a.g (columns c) c.requires.1.width c.requires.0.east c.requires.0.south (planned c)

-- no column of the grid lies in the clip
pub returns-then-edges : goal.returns-then-edges
returns-then-edges c =
    let a = c.args in
    grid_beside a.t a.style c.requires.0.east c.requires.0.south a.g c.first_span-span.ensures c.edges_between-edges.result c.edges_between-edges.ensures
    c.if-edges.true _

-- no row of the grid lies in the clip
pub returns-then-f : goal.returns-then-f
returns-then-f c =
    let a = c.args in
    grid_below a.t a.style c.requires.0.east c.requires.0.south a.g c.first_span-span.ensures c.edges_between-f.result c.edges_between-f.ensures _
    c.if-f.true

pub overflow_add-seen : goal.overflow_add-seen
overflow_add-seen c =
    let most = seen_most c.args.style.transparent c.args.g.cells (some (goal.at.overflow_add-seen c).After-stencil_for-stencil) in
    omega (arith, c.seen_in.ensures, most, c.requires.2)

pub returns-then-t : goal.returns-then-t
returns-then-t c =
    let a = c.args in
    let p = (goal.at.returns-then-t c).After-stencil_for-stencil in
    picked_painted a.t (visible p) a.screen.now a.store.now a.hits c.seen_in.result (counted p ∙ sym c.seen_in.ensures) c.if-t.true
    ∙ whole p

-- the length of the buffer that holds the bitmap
bytes_is : (c : Joined-area) → c.if-area.bytes ≡ cond c.args.t.area.onscreen (length c.args.screen.now) (length c.args.store.now)
bytes_is c = elim c.if-area.branch [
  | then-area w ↦ w.bytes-is ∙ sym (cond_true _ _ w.if-area.true)
  | else-area w ↦ w.bytes-is ∙ sym (cond_false _ _ w.if-area.false)
]

pub roomy-requires : goal.roomy-requires
roomy-requires c =
    let g = goal.at.roomy-requires c in
    (alone _ _ c.if-area.bytes c.requires.0 (sym (bytes_is g.Joined-area)), planned g.After-stencil_for-stencil)

pub draw_rows-requires : goal.draw_rows-requires
draw_rows-requires c =
    let g = goal.at.draw_rows-requires c in
    let o = cond_true (length c.args.screen.now) (length c.args.store.now) c.if-area-2.true in (
      alone _ _ _ c.requires.0 o,
      planned g.After-stencil_for-stencil,
      rw (bytes_is g.Joined-area ∙ o) at (c.roomy.ensures c.if-roomy.true),
    )

pub draw_rows-requires-else-area-2 : goal.draw_rows-requires-else-area-2
draw_rows-requires-else-area-2 c =
    let g = goal.at.draw_rows-requires-else-area-2 c in
    let o = cond_false (length c.args.screen.now) (length c.args.store.now) c.if-area-2.false in (
      alone _ _ _ c.requires.0 o,
      planned g.After-stencil_for-stencil,
      rw (bytes_is g.Joined-area ∙ o) at (c.roomy.ensures c.if-roomy.true),
    )

-- on the screen
pub returns-then-area-2 : goal.returns-then-area-2
returns-then-area-2 c =
    let a = c.args in
    let p = (goal.at.returns-then-area-2 c).After-stencil_for-stencil in
    screen_painted a.t (visible p) a.screen.now a.store.now a.hits c.seen_in.result (counted p ∙ sym c.seen_in.ensures) c.if-t.false
    c.if-area-2.true (c.draw_rows.ensures.drawn a.g (sym c.first_span-span.ensures.count) c.met_rows-met.ensures)
    ∙ whole p

-- in the store
pub returns-else-area-2 : goal.returns-else-area-2
returns-else-area-2 c =
    let a = c.args in
    let p = (goal.at.returns-else-area-2 c).After-stencil_for-stencil in
    store_painted a.t (visible p) a.screen.now a.store.now a.hits c.seen_in.result (counted p ∙ sym c.seen_in.ensures) c.if-t.false
    c.if-area-2.false (c.draw_rows-else-area-2.ensures.drawn a.g (sym c.first_span-span.ensures.count) c.met_rows-met.ensures)
    ∙ whole p
