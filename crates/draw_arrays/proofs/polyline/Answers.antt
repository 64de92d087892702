-- `draw_arrays::polyline` meets its contract.
use mathlib.Core.Path.{refl, ◌∙◌}
use Prim.Native.Nat.{◌+◌, ◌*◌}
use native.Mathlib.Omega.{arith}
use Rattle.model.specs.Lines.{pairs_at, segments, polyline}
use Rattle.canvas.proofs.LoopLaws.{underway_word}
use Rattle.canvas.proofs.ReachLaws.{reach_room}
use Rattle.draw_arrays.proofs.ArrayLaws.{underway_segment, items_first, items_last, pair_at, segment_same, segments_next}
use Rattle.draw_arrays.proofs.polyline.Goals as goal

pub loop-k-init : goal.loop-k-init
unfolding pairs_at polyline
loop-k-init c =
    let a = c.args in
    record {
      underway = items_first (λ q. segments a.t.pen q 0 0) _ a.n a.t a.screen.now a.store.now a.from;
      untrapped = refl;
      inside = reach_room c.requires.2;
      first = omega arith;
      index = omega arith;
    }

pub loop-k-preserved : goal.loop-k-preserved
loop-k-preserved c =
    let a = c.args in
    let l = c.loop-k in
    let same = underway_word l.invariant.underway c.requires.2 in
    let read = segment_same l.store a.store.now (a.array + 4 * l.k) l.first l.index (λ j lo hi. same j (omega arith) (omega arith)) in
    record {
      underway =
          underway_segment l.invariant.underway c.requires.0 l.invariant.untrapped c.loop-k-test.true _ l.d.position c.segment_at-s.result
          (segments_next a.t.pen a.store.now a.array a.n l.k l.first l.index l.d.position _ c.segment_at-s.result c.loop-k-test.true
          (c.segment_at-s.ensures ∙ read) c.leg-d.ensures.position c.pixels_of-index.ensures.0)
          c.leg-d.ensures;
      untrapped = c.leg-d.ensures.trap;
      inside = l.invariant.inside;
      first = omega arith;
      index = omega (arith, l.invariant.index, c.pixels_of-index.ensures.1);
    }

pub returns : goal.returns
unfolding segments
returns c =
    let a = c.args in
    items_last (λ q. segments a.t.pen q c.loop-k.first c.loop-k.index) (pair_at a.store.now a.array) a.n c.loop-k.invariant.underway
    c.loop-k-test.false refl
