-- `draw_copies::move_rows` meets its contract: after k turns the first k rows are moved, in their order.
use Rattle.std.proofs.Common.{◌≡◌, arith}
use Rattle.draw_copies.specs.Transfers.{moved_all}
use Rattle.draw_copies.proofs.StepLaws.{reversed_if_lt}
use Rattle.draw_copies.proofs.LoopLaws.{all_steps_bounded, rows_few}
use Rattle.draw_copies.proofs.LoopLaws.{stepped_none, stepped_next, stepped_movable, stepped_room}
use Rattle.draw_copies.proofs.move_rows.Goals as goal

pub loop-k-init : goal.loop-k-init
loop-k-init c = stepped_none (all_steps_bounded _ _) _

pub move_row-seen-requires : goal.move_row-seen-requires
move_row-seen-requires c =
    let m = c.args.m in (
      stepped_movable _ c.loop-k.invariant c.requires.0,
      c.requires.1,
      rw c.reversed_if-j.ensures (reversed_if_lt m.up m.patch.high c.loop-k.k c.loop-k-test.true),
      stepped_room _ c.loop-k.invariant c.loop-k-test.true
          (omega (arith, rows_few m.patch.high m.patch.wide (omega (arith, c.requires.0.high)) (omega (arith, c.requires.0.wide)))),
    )

pub loop-k-preserved : goal.loop-k-preserved
loop-k-preserved c = stepped_next _ c.loop-k.invariant (rw c.reversed_if-j.ensures at c.move_row-seen.ensures)

pub returns : goal.returns
unfolding moved_all
returns c =
    let e : c.loop-k.k ≡ c.args.m.patch.high = omega arith in
    rw e at c.loop-k.invariant.made
