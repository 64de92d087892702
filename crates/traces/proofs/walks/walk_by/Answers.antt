-- `traces::walks::walk_by` meets its contract.
use Rattle.std.proofs.Common.{◌≡◌, ℕ, ◌+◌, ◌-◌, ap, ◌∙◌, add-zero, arith}
use Rattle.stamps.specs.Stamps.{stamped}
use Rattle.traces.specs.Walks.{spot_no}
use Rattle.traces.proofs.LoopLaws.{walking_first, walking_next, walking_in}
use Rattle.traces.proofs.walks.walk_by.Goals as goal

pub stamp-requires : goal.stamp-requires
unfolding spot_no
stamp-requires g c = let p = c.requires in (p.table, c.first.ensures.1, p.inside 0 p.some)

pub loop-init : goal.loop-init
loop-init g c = record {
  walking = walking_first _ _ _ _ _ _
      (c.stamp.ensures ∙ ap (λ (on : ℕ). stamped c.args.stamps.now c.args.base c.args.from.bit on c.args.buffer.now) c.first.ensures.0);
  digits = λ k. rw add-zero;
}

pub stamp-requires-in-loop : goal.stamp-requires-in-loop
stamp-requires-in-loop g c =
    let w = c.loop.invariant.walking in
    (c.requires.table, c.first-in-loop.ensures.1, walking_in _ _ _ _ _ _ w c.requires c.loop.auto.counter c.loop-test.true c.next_spot-spot.ensures)

pub loop-preserved : goal.loop-preserved
loop-preserved g c =
    let i = c.loop.counter in
    let digits = λ (k : ℕ).
    let e : k + 1 + (i - 1) ≡ k + (i + 1 - 1) = omega arith in
    c.turned-rest.ensures k ∙ c.loop.invariant.digits (k + 1) ∙ ap (g.D.Dashes.digits c.args.dashes) e in
    let z : 0 + (i + 1 - 1) ≡ i = omega arith in
    record {
      walking = walking_next _ _ _ _ _ _ c.loop.invariant.walking c.loop.auto.counter c.next_spot-spot.ensures
          (c.stamp-in-loop.ensures
          ∙ ap (λ (on : ℕ). stamped c.args.stamps.now c.args.base c.next_spot-spot.result.bit on c.loop.buffer)
          (c.first-in-loop.ensures.0 ∙ rw z at (digits 0)));
      digits = digits;
    }
