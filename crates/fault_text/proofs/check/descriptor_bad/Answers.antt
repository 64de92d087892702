-- `fault_text::check::descriptor_bad` meets its contract: where the first word passes the store's end, so does the descriptor.
use mathlib.Core.Path.{sym}
use native.Mathlib.Omega.{arith}
use Rattle.bitmaps.proofs.BytesLaws.{array_bad_beyond}
use Rattle.fault_text.proofs.check.descriptor_bad.Goals as goal

pub returns-then-store-at : goal.returns-then-store-at
returns-then-store-at c =
    let a = c.args in
    sym (array_bad_beyond a.r a.active a.at _ (omega arith) (omega (arith, c.requires.0, c.if-store-at.true)))
