-- Faults can be looked for on a pane that was admitted, as from a cleared one.
use mathlib.Core.Path.{refl}
use mathlib.Core.List.{List}
use Prim.Native.Nat.{ℕ}
use lib.ListN.{length}
use Rattle.model.specs.declared.Console.{Console}
use Rattle.model.specs.Bitmaps.{rule_broken}
use Rattle.model.specs.Record.{fresh}
use Rattle.model.specs.Faults.{context_of}
use Rattle.faults.specs.Checking.{Checkable}
use Rattle.call_common.specs.declared.Admission.{Admission}
use Rattle.call_common.specs.Admissions.{Granted}
use Rattle.call_common.proofs.CallLaws.{store_part, length_store_part}

pub granted_checkable : {c : Console} {screen number : ℕ} {a : Admission} (stores : List ℕ) → Granted c screen (length stores) number a
    → Checkable c.geometry a.row (context_of fresh) (length (store_part stores a.row))
unfolding rule_broken
granted_checkable {screen = screen} stores g =
    rw (length_store_part stores g, g.row) (record { screen = screen; placed = g.admitted.placed; rule = refl; font = refl })
