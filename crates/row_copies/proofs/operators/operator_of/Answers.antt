-- `operator_of` meets its contract: its four entries under the mask are combined.
use mathlib.Core.Path.{ap}
use mathlib.Core.Bool.{true, false}
use Prim.Native.Nat.{ℕ}
use Rattle.model.specs.Operations.{op_bit}
use Rattle.raster.specs.Operations.{truth_of}
use Rattle.raster.specs.declared.operations.Truth.{Truth}
use Rattle.row_copies.proofs.WordLaws.{operator_is}
use Rattle.row_copies.proofs.operators.operator_of.Goals as goal

pub returns : goal.returns
unfolding truth_of
returns c =
    let a = c.args in
    let op : ℕ = a.pen.op in
    let e = c.requires in
    operator_is op a.pen.mask c.passes.result (c.plane.ensures (op_bit op false false) (ap (λ (t : Truth). t.0) e))
    (c.plane-2.ensures (op_bit op true false) (ap (λ (t : Truth). t.1) e)) (c.plane-3.ensures (op_bit op false true) (ap (λ (t : Truth). t.2) e))
    (c.plane-4.ensures (op_bit op true true) (ap (λ (t : Truth). t.3) e))
    c.mux_word-none.ensures c.mux_word-source.ensures c.mux_word-old.ensures c.mux_word-both.ensures c.passes.ensures
