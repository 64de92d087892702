-- `draw_arrays::scan_lines` meets its contract.
use mathlib.Core.Path.{refl, ◌∙◌}
use Prim.Native.Nat.{◌+◌, ◌*◌}
use native.Mathlib.Omega.{arith}
use Rattle.model.specs.Lines.{triples_at, scan_lines}
use Rattle.canvas.proofs.LoopLaws.{underway_word}
use Rattle.draw_lines.specs.Segments.{whole_line}
use Rattle.canvas.proofs.ReachLaws.{reach_room}
use Rattle.draw_arrays.proofs.ArrayLaws.{underway_segment, items_first, items_last, triple_at, triple_same, scan_lines_next}
use Rattle.draw_arrays.proofs.scan_lines.Goals as goal

pub loop-k-init : goal.loop-k-init
unfolding triples_at
loop-k-init c =
    let a = c.args in
    record {
      underway = items_first (scan_lines a.t.pen) _ a.n a.t a.screen.now a.store.now a.from;
      untrapped = refl;
      inside = reach_room c.requires.2;
    }

pub loop-k-preserved : goal.loop-k-preserved
loop-k-preserved c =
    let a = c.args in
    let l = c.loop-k in
    let same = underway_word l.invariant.underway c.requires.2 in
    let read = triple_same l.store a.store.now (a.array + 6 * l.k) (λ j lo hi. same j (omega arith) (omega arith)) in
    record {
      underway =
          underway_segment l.invariant.underway c.requires.0 l.invariant.untrapped c.loop-k-test.true _ c.scan-d.result.position
          (whole_line c.triple_at-s.result.len 0)
          (scan_lines_next a.t.pen a.store.now a.array a.n l.k l.d.position _ c.triple_at-s.result c.loop-k-test.true
          (c.triple_at-s.ensures ∙ read) c.scan-d.ensures.position)
          c.scan-d.ensures;
      untrapped = c.scan-d.ensures.trap;
      inside = l.invariant.inside;
    }

pub returns : goal.returns
unfolding scan_lines
returns c =
    let a = c.args in
    items_last (scan_lines a.t.pen) (triple_at a.store.now a.array) a.n c.loop-k.invariant.underway c.loop-k-test.false refl
