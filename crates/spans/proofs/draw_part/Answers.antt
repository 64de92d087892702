-- `spans::draw_part` meets its contract: the stretch that the strips draw is what the span's dots change.
use mathlib.Core.Path.{sym, ◌∙◌}
use native.Mathlib.Omega.{arith}
use lib.ListN.{length}
use Rattle.model.proofs.Decisions.{cond_true, cond_false}
use Rattle.strips.specs.Strips.{Table}
use Rattle.strips.proofs.DottedLaws.{woven_table}
use Rattle.strips.proofs.FieldBits.{Bytes}
use Rattle.spans.proofs.DrawLaws.{part, PartSized, part_sized, part_changes, screen_fits, store_fits}
use Rattle.spans.proofs.draw_part.Goals as goal
use Rattle.spans.proofs.draw_part.Goals.{After-phase_of-phase}

-- what is known once the first column and the phase are: the numbers, and the bytes
module _ (c : After-phase_of-phase) where
  numbers : PartSized c.args.t c.args.s c.args.e (length c.args.screen.now) (length c.args.store.now) c.leftmost-x.result
  numbers =
      let a = c.args in
      let r = c.requires in
      part_sized a.t a.s a.e a.screen.now a.store.now r.0 r.3 r.4 c.leftmost-x.result c.leftmost-x.ensures

  table : Table c.args.strips.now
  table = woven_table c.requires.1.woven c.requires.0.depth (λ k. (c.type_inv.strips k).fits)

  screen_bytes : Bytes c.args.screen.now
  screen_bytes k = (c.type_inv.screen k).fits

  store_bytes : Bytes c.args.store.now
  store_bytes k = (c.type_inv.store k).fits

pub leftmost-x-requires : goal.leftmost-x-requires
leftmost-x-requires c =
    let a = c.args in
    let p = part a.t.area.surface a.t.clip a.s a.e c.requires.0.east c.requires.0.south c.requires.3 c.requires.4 in
    (c.requires.2.x, omega (arith, c.requires.2.count, c.requires.3.last, c.requires.4), p.reached)

pub overflow_add-row : goal.overflow_add-row
overflow_add-row c = omega (arith, (numbers (goal.at.overflow_add-row c).After-phase_of-phase).down)

pub overflow_mul-row : goal.overflow_mul-row
overflow_mul-row c = omega (arith, (numbers (goal.at.overflow_mul-row c).After-phase_of-phase).line)

pub overflow_mul-row-2 : goal.overflow_mul-row-2
overflow_mul-row-2 c = omega (arith, (numbers (goal.at.overflow_mul-row-2 c).After-phase_of-phase).line)

pub overflow_add-row-2 : goal.overflow_add-row-2
overflow_add-row-2 c = omega (arith, (numbers (goal.at.overflow_add-row-2 c).After-phase_of-phase).line)

pub overflow_mul-lo : goal.overflow_mul-lo
overflow_mul-lo c = omega (arith, (numbers (goal.at.overflow_mul-lo c).After-phase_of-phase).hi)

pub overflow_mul-hi : goal.overflow_mul-hi
overflow_mul-hi c = omega (arith, (numbers (goal.at.overflow_mul-hi c).After-phase_of-phase).hi)

pub overflow_add-hi : goal.overflow_add-hi
overflow_add-hi c = omega (arith, (numbers (goal.at.overflow_add-hi c).After-phase_of-phase).hi)

-- the strips can be drawn with, and the row has room
pub stretch-requires : goal.stretch-requires
stretch-requires c =
    let k = (goal.at.stretch-requires c).After-phase_of-phase in
    let z = numbers k in
    (table k, c.phase_of-phase.ensures.1, omega (arith, z.some), omega (arith, z.hi), omega (arith, rw c.if-t.true at z.room))

pub stretch-requires-else-t : goal.stretch-requires-else-t
stretch-requires-else-t c =
    let k = (goal.at.stretch-requires-else-t c).After-phase_of-phase in
    let z = numbers k in
    (table k, c.phase_of-phase.ensures.1, omega (arith, z.some), omega (arith, z.hi), omega (arith, rw c.if-t.false at z.room))

-- on the screen
pub returns-then-t : goal.returns-then-t
returns-then-t c =
    let a = c.args in
    let r = c.requires in
    let o = c.if-t.true in (
      part_changes a.t a.s a.e a.screen.now a.store.now r.0 r.3 r.4 r.1 (screen_fits a.screen.now a.store.now r.0 o)
          (screen_bytes (goal.at.returns-then-t c).After-phase_of-phase) (λ k. (c.type_inv.screen k).fits)
          c.leftmost-x.result c.phase_of-phase.result c.leftmost-x.ensures c.phase_of-phase.ensures.0 c.stretch.ensures
          ∙ sym (cond_true _ _ o),
      sym (cond_true _ _ o),
    )

-- in the store
pub returns-else-t : goal.returns-else-t
returns-else-t c =
    let a = c.args in
    let r = c.requires in
    let o = c.if-t.false in (
      sym (cond_false _ _ o),
      part_changes a.t a.s a.e a.screen.now a.store.now r.0 r.3 r.4 r.1 (store_fits a.screen.now a.store.now r.0 o)
          (store_bytes (goal.at.returns-else-t c).After-phase_of-phase) (λ k. (c.type_inv.store k).fits)
          c.leftmost-x.result c.phase_of-phase.result c.leftmost-x.ensures c.phase_of-phase.ensures.0 c.stretch-else-t.ensures
          ∙ sym (cond_false _ _ o),
    )
