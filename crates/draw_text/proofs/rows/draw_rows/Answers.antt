-- `draw_text::rows::draw_rows` meets its contract. The loop's invariant: the rows so far are drawn, whatever grid they are of.
use Rattle.std.proofs.Common.{◌≡◌, refl, arith}
use Rattle.strips.proofs.FieldBits.{Bytes}
use Rattle.draw_text.specs.Cells.{grid_row}
use Rattle.draw_text.proofs.RowLaws.{row_drawn, row_in, changes_none, changes_next}
use Rattle.draw_text.proofs.rows.draw_rows.Goals as goal

pub loop-number-init : goal.loop-number-init
loop-number-init c =
    let a = c.args in
    record {
      drawn = λ g w m. changes_none a.t.area.surface a.t.clip a.t.pen a.style g a.f.first a.f.first refl a.buf.now;
      bytes = λ k. (c.type_inv.buf k).fits;
    }

pub row_byte-row-requires : goal.row_byte-row-requires
row_byte-row-requires c =
    let a = c.args in
    row_in a.t a.style a.plan c.requires.0 c.requires.1 c.loop-number.number c.loop-number.auto.number c.loop-number-test.true

pub draw_cells-requires : goal.draw_cells-requires
draw_cells-requires c =
    let p = c.requires in (
      p.1.planned.stencil.stencil.usable,
      rw (c.row_byte-row.ensures, c.loop-number.auto.buf) (p.2.room c.loop-number.number c.loop-number.auto.number c.loop-number-test.true),
    )

pub loop-number-preserved : goal.loop-number-preserved
loop-number-preserved c =
    let a = c.args in
    let p = c.requires.1 in
    let n = c.loop-number.number in
    let from = c.loop-number.auto.number in
    let below = c.loop-number-test.true in
    let bytes : Bytes c.draw_cells.new.buf = λ k. (c.type_inv.buf k).fits in
    record {
      drawn = λ g w m.
          changes_next a.t.area.surface a.t.clip a.t.pen a.style g a.f.first n a.buf.now (c.loop-number.invariant.drawn g w m)
          (row_drawn a.t a.style (grid_row g n) a.plan (rw w p.planned)
          (record { number = omega (arith, below, p.last); width = omega (arith, w, p.width) })
          (p.inside n from below) p.east c.requires.0.south c.loop-number.buf _ (rw c.loop-number.auto.buf c.requires.0) _
          (m.row n (omega (arith, below, p.last))) c.loop-number.invariant.bytes bytes
          (rw c.row_byte-row.ensures at c.draw_cells.ensures))
          from;
      bytes = bytes;
    }

pub returns : goal.returns
returns c =
    let e : c.loop-number.number ≡ c.args.f.second = omega (arith, c.requires.1.some) in
    record { drawn = rw e at c.loop-number.invariant.drawn }
