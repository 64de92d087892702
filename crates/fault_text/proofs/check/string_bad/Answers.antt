-- `fault_text::check::string_bad` meets its contract, by the kind of font.
use mathlib.Core.Path.{ap, subst}
use Prim.Native.Nat.{ℕ, ◌<◌}
use borrow.Author.Rules.{rules}
use Rattle.model.specs.Words.{address_end}
use Rattle.model.specs.Glyphs.{base_of}
use Rattle.model.specs.Faults.{string_bad}
use Rattle.fault_text.specs.Reading.{offsets_bad}
use Rattle.fault_text.proofs.FontLaws.{base_of_small}
use Rattle.fault_text.proofs.check.string_bad.Goals as goal

-- no font
pub returns-in-Absent : goal.returns-in-Absent
unfolding string_bad
returns-in-Absent c = rw c.in-Absent.is

-- word mode
pub returns-in-Word : goal.returns-in-Word
unfolding string_bad
returns-in-Word c = rw c.in-Word.is c.array_bad.ensures

-- byte mode
pub codes_bad-requires : goal.codes_bad-requires
codes_bad-requires c =
    let base = ap base_of c.in-Byte.is in
    let small : base_of c.args.font < address_end = base_of_small c.args.font c.requires.base in
    (c.requires.long, subst (λ (n : ℕ). n < address_end) base small, c.requires.small, search rules)

pub returns-in-Byte : goal.returns-in-Byte
unfolding string_bad offsets_bad
returns-in-Byte c = rw c.in-Byte.is c.codes_bad.ensures
