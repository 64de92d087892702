-- The bytes stand in the store from the address on. The invariant: the first i of them do.
use mathlib.Core.Path.{◌∙◌}
use Prim.Native.Nat.{◌+◌, ◌<◌}
use native.Mathlib.Nat.{le_antisymm}
use native.Mathlib.Numerals.{add-one}
use native.Mathlib.Omega.{arith}
use lib.ListN.{length}
use lib.Seq.{paste-suc}
use Rattle.call_store.proofs.PartLaws.{paste_in_part}
use Rattle.call_store.proofs.put.write.Goals as goal

pub loop-i-preserved : goal.loop-i-preserved
loop-i-preserved c =
    let a = c.args in
    let h : a.address + c.loop-i.i < length a.store.now = omega arith in
    rw (c.loop-i.invariant, add-one) (paste-suc a.store.now a.address a.bytes.now c.loop-i.i 0 h c.loop-i-test.true)

pub returns : goal.returns
returns c =
    let a = c.args in
    rw (le_antisymm c.loop-i.auto.i-end c.loop-i-test.false) at c.loop-i.invariant ∙ paste_in_part a.store.now a.address a.bytes.now
