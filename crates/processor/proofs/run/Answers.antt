-- `processor::run` meets its contract. The invariant: what is left to run gives the same end, the pane is sound, the commands counted and the
-- budget left are at most the budget, and each command drew at most the most pixels. The measure is the budget left.
use mathlib.Core.Path.{◌≡◌, refl, sym, ap, ◌∙◌}
use mathlib.Core.Logic.{◌⊎◌, ⊎_elim}
use Prim.Native.Nat.{ℕ, suc, max, ◌+◌, ◌-◌}
use native.Mathlib.Omega.{arith}
use borrow.Enum.Refused.{opened}
use denote.Enum.Declared.{tag_of}
use Rattle.model.specs.declared.Command.{Command}
use Rattle.model.specs.declared.Decoded.{Decoded}
use Rattle.model.specs.declared.Decoded.TheVariants.{Do}
use Rattle.model.specs.Commands.{decode}
use Rattle.model.specs.Runs.{Finish, runs}
use Rattle.model.specs.contracts.Decoded.{the_type}
use Rattle.decoder.proofs.DecodeLaws.{decode_addressed}
use Rattle.perform.specs.Performing.{finish}
use Rattle.batches.specs.Batches.{onward}
use Rattle.batches.proofs.OnwardLaws.{onward_none, onward_zero, onward_idle, onward_more}
use Rattle.processor.proofs.RunningLaws.{onward_stopped, run_ends}
use Rattle.processor.proofs.run.Goals as goal
use Rattle.processor.proofs.run.Goals.{After-decode-d, After-slice_known-2-1, After-slice_known-in-loop-rest-2-1}

module _ (c : After-decode-d) where
  -- the decoder is asked with the row's length
  decoded : c.decode-d.result ≡ decode c.args.f.row.len c.loop-rest.store c.loop-rest.q.progress.pointer
  decoded =
      c.decode-d.ensures
      ∙ ap (λ (n : ℕ). decode n c.loop-rest.store c.loop-rest.q.progress.pointer) c.loop-rest.invariant.sound.placed.part

  -- budget is left
  one_left : suc (c.loop-rest.rest - 1) ≡ c.loop-rest.rest
  one_left = omega (arith, c.loop-rest-test.true)

  -- what is left to run, from here
  abbrev so_far : Finish
  so_far = finish c.loop-rest.count c.loop-rest.paint c.loop-rest.q c.loop-rest.screen c.loop-rest.store

  from_here : onward c.args.f.geometry c.args.f.row (suc (c.loop-rest.rest - 1)) so_far
      ≡ runs c.args.f.geometry c.args.f.row c.args.budget c.args.p c.args.screen.now c.args.store.now
  from_here =
      ap (λ (n : ℕ). onward c.args.f.geometry c.args.f.row n so_far) one_left
      ∙ c.loop-rest.invariant.same

pub loop-rest-init : goal.loop-rest-init
loop-rest-init c = record {
  sound = c.requires;
  bytes = λ k. ((goal.at.loop-rest-init c).After-slice_known-2-1.type_inv.store k).fits;
  wide = refl;
  tall = refl;
  spent = omega arith;
  few = omega arith;
  same = onward_none _ _ _ _ _ _;
}

-- a pane that does not run
pub returns-then-q-ne-STATUS_RUNNING : goal.returns-then-q-ne-STATUS_RUNNING
returns-then-q-ne-STATUS_RUNNING c =
    let l = c.loop-rest in
    rw c.finish_with.ensures
    (run_ends l.rest c.ranges.budget.fits l.invariant.spent l.invariant.few
    (sym (onward_idle _ _ l.rest (finish l.count l.paint l.q l.screen l.store) c.if-q-ne-STATUS_RUNNING.true) ∙ l.invariant.same))

-- ## The end, or a fault

-- a command's tag is the first
no_command : (d : Decoded) → (tag_of the_type d ≡ 1) ⊎ (tag_of the_type d ≡ 2) → (c : Command) (next : ℕ) → d ≡ Do c next → ⊥
no_command d h c next e =
    let z : tag_of the_type d ≡ 0 = ap (tag_of the_type) e in
    ⊎_elim (λ f. omega arith) (λ f. omega arith) h

pub returns-in_default : goal.returns-in_default
returns-in_default c =
    let l = c.loop-rest in
    let d = (goal.at.returns-in_default c).After-decode-d in
    rw c.finish_with-in_default.ensures
    (run_ends l.rest c.ranges.budget.fits l.invariant.spent l.invariant.few
    (sym (onward_stopped c.args.f.geometry c.args.f.row (l.rest - 1) l.count l.paint l.q c.stopped-end.result
    l.screen l.store c.decode-d.result c.if-q-ne-STATUS_RUNNING.false (decoded d)
    (no_command c.decode-d.result (opened c.in_default.in_default-own.keys2)) c.stopped-end.ensures)
    ∙ from_here d))

-- ## A command

pub advance-s-requires : goal.advance-s-requires
advance-s-requires c =
    let l = c.loop-rest in
    let told = sym (decoded (goal.at.advance-s-requires c).After-decode-d) ∙ c.in-Do.is in
    record {
      sound = l.invariant.sound;
      running = c.if-q-ne-STATUS_RUNNING.false;
      told = told;
      addressed = decode_addressed c.args.f.row.len l.store l.q.progress.pointer _ c.in-Do.next l.invariant.bytes told;
      some = c.loop-rest-test.true;
    }

pub overflow_add-count : goal.overflow_add-count
overflow_add-count c =
    record { fits = omega (arith, c.loop-rest.invariant.spent, c.advance-s.ensures.within, c.ranges.budget.fits) }

pub overflow_add-paint : goal.overflow_add-paint
overflow_add-paint c =
    omega (
      arith,
      c.loop-rest.invariant.few,
      c.loop-rest.invariant.spent,
      c.advance-s.ensures.few,
      c.advance-s.ensures.within,
      c.ranges.budget.fits,
    )

pub loop-rest-preserved : goal.loop-rest-preserved
loop-rest-preserved c =
    let l = c.loop-rest in
    let f = c.args.f in
    let s = c.advance-s.result in
    let e = c.advance-s.ensures in
    record {
      sound = e.sound;
      bytes = λ i. ((goal.at.loop-rest-preserved c).After-slice_known-in-loop-rest-2-1.type_inv.store i).fits;
      wide = c.advance-s.auto.screen ∙ l.invariant.wide;
      tall = c.advance-s.auto.store ∙ l.invariant.tall;
      spent = omega (arith, l.invariant.spent, c.max-rest.ensures, e.within);
      few = omega (arith, l.invariant.few, e.few);
      same =
          ap (λ (n : ℕ). onward f.geometry f.row (l.rest - n)
          (finish (l.count + s.count) (l.paint + s.paint) s.pane c.advance-s.new.screen c.advance-s.new.store)) c.max-rest.ensures
          ∙ onward_more f.geometry f.row (l.rest - max 1 s.count) l.rest l.count l.paint s.count s.paint l.q s.pane
          l.screen l.store _ _ e.leaves
          ∙ l.invariant.same;
    }

-- ## A spent budget

pub returns : goal.returns
returns c =
    let l = c.loop-rest in
    let f = c.args.f in
    let e : l.rest ≡ 0 = omega (arith, c.loop-rest-test.false) in
    let so_far = finish l.count l.paint l.q l.screen l.store in
    rw c.finish_with-2.ensures
    (run_ends l.rest c.ranges.budget.fits l.invariant.spent l.invariant.few
    (sym (onward_zero f.geometry f.row so_far)
    ∙ ap (λ (n : ℕ). onward f.geometry f.row n so_far) (sym e)
    ∙ l.invariant.same))
