-- `draw_text::rows::roomy` meets its contract: room for the lowest row is room for all.
use Rattle.std.proofs.Common.{◌≡◌, ◌+◌, ◌-◌, ◌*◌, ◌/◌, ◌≤◌, ◌<◌, cond, sym, ap, ◌∙◌, arith, leb-true}
use Rattle.model.proofs.Decisions.{cond_true, cond_false}
use Rattle.draw_text.specs.Rows.{row_start, RowInside}
use Rattle.draw_text.proofs.RowLaws.{row_in, rows_roomy, start_small, stencil_small}
use Rattle.draw_text.proofs.rows.roomy.Goals as goal
use Rattle.draw_text.proofs.rows.roomy.Goals.{Joined-up, After-row_byte, then-up, else-up}

module _ (c : Joined-up) where
  within : (c.args.f.first ≤ c.if-up.lowest) × (c.if-up.lowest < c.args.f.second)
  within =
      let some = c.requires.1.some in
      elim c.if-up.branch [
        | then-up w ↦ (omega (arith, w.lowest-is), omega (arith, w.lowest-is, some))
        | else-up w ↦ (omega (arith, w.lowest-is, some), omega (arith, w.lowest-is, some))
      ]

  inside : RowInside c.args.t c.args.style.course c.if-up.lowest
  inside = let a = c.args in row_in a.t a.style a.plan c.requires.0 c.requires.1 c.if-up.lowest within.0 within.1

-- the numbers of the stencil and of the row's first byte
module _ (c : After-row_byte) where
  small : RowInside c.args.t c.args.style.course c.if-up.lowest → c.row_byte.result ≤ 4294967296
  small i = let a = c.args in omega (arith, c.row_byte.ensures, start_small a.t a.style.course c.if-up.lowest i)

  words : (c.args.plan.stencil.word ≤ 16777216) × (c.args.plan.stencil.end ≤ 192)
  words = let a = c.args in stencil_small a.t a.style a.plan c.requires.0 c.requires.1

pub row_byte-requires : goal.row_byte-requires
row_byte-requires c = inside (goal.at.row_byte-requires c).Joined-up

pub overflow_mul-result : goal.overflow_mul-result
overflow_mul-result c = let w = words (goal.at.overflow_mul-result c).After-row_byte in record { fits = omega (arith, w.0) }

pub overflow_add-result : goal.overflow_add-result
overflow_add-result c =
    let g = goal.at.overflow_add-result c in
    record { fits = omega (arith, (words g.After-row_byte).0, small g.After-row_byte (inside g.Joined-up)) }

pub overflow_add-result-3 : goal.overflow_add-result-3
overflow_add-result-3 c =
    let g = goal.at.overflow_add-result-3 c in
    let w = words g.After-row_byte in
    record { fits = omega (arith, w.0, w.1, small g.After-row_byte (inside g.Joined-up)) }

pub returns : goal.returns
returns c t =
    let a = c.args in
    let e : c.if-up.lowest ≡ cond a.style.course.heading.up a.f.first (a.f.second - 1)
    = elim c.if-up.branch [
      | then-up w ↦ w.lowest-is ∙ sym (cond_true _ _ w.if-up.true)
      | else-up w ↦ w.lowest-is ∙ sym (cond_false _ _ w.if-up.false)
    ] in
    let h : c.row_byte.result + 2 * a.plan.stencil.word + 8 * ((a.plan.stencil.end + 63) / 64) ≤ a.bytes = leb-true _ _ t in
    rows_roomy a.t a.style a.plan a.f a.bytes (omega arith) c.requires.1.last c.requires.1.some
    (omega (arith, h, c.row_byte.ensures ∙ ap (row_start a.t a.style.course) e))
