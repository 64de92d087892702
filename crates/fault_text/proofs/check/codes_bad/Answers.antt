-- `fault_text::check::codes_bad` meets its contract: the codes are looked at first, since offset words are found through them.
use mathlib.Core.Path.{◌≡◌, sym, ◌∙◌}
use mathlib.Core.Bool.{false}
use Prim.Native.Nat.{◌+◌}
use native.Mathlib.Omega.{arith}
use Rattle.model.specs.Faults.{bytes_bad}
use Rattle.bitmaps.proofs.BytesLaws.{bytes_bad_inside}
use Rattle.fault_text.proofs.check.codes_bad.Goals as goal

pub returns-then-bytes_bad : goal.returns-then-bytes_bad
returns-then-bytes_bad c = rw (sym c.bytes_bad.ensures ∙ c.if-bytes_bad.true)

pub offsets_bad-requires : goal.offsets_bad-requires
offsets_bad-requires c =
    let a = c.args in
    let e : bytes_bad a.r a.active a.string a.n ≡ false = sym c.bytes_bad.ensures ∙ c.if-bytes_bad.false in
    record {
      small = c.requires.1;
      codes = λ k l. rw c.requires.0 (bytes_bad_inside a.r a.active a.string a.n e (a.string + k) (omega arith) (omega arith));
    }

pub returns : goal.returns
returns c = rw (sym c.bytes_bad.ensures ∙ c.if-bytes_bad.false) c.offsets_bad.ensures
