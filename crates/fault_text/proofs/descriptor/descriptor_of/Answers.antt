-- `fault_text::descriptor::descriptor_of` meets its contract, by the kind of font: no selector, the string's word, or the word that its
-- code names.
use mathlib.Core.Path.{◌≡◌, sym, ap, ◌∙◌}
use Prim.Native.Nat.{ℕ, ◌+◌, ◌*◌}
use native.Mathlib.Omega.{arith}
use Rattle.model.specs.Words.{word_at}
use Rattle.model.specs.Glyphs.{base_of}
use Rattle.fault_text.proofs.FontLaws.{descriptor_absent, descriptor_word, descriptor_byte}
use Rattle.fault_text.proofs.descriptor.descriptor_of.Goals as goal

-- ## No font
pub returns-in-Absent : goal.returns-in-Absent
returns-in-Absent c =
    let a = c.args in
    (sym (descriptor_absent a.store.now a.string a.k c.in-Absent.is), omega arith)

pub returns-in-Word : goal.returns-in-Word
returns-in-Word c =
    let a = c.args in
    let base : c.in-Word.base ≡ base_of a.font = sym (ap base_of c.in-Word.is) in (
      c.named.ensures.0 ∙ ap (λ (w : ℕ). c.in-Word.base + 2 * w) c.word.ensures ∙ sym (descriptor_word a.store.now a.string a.k _ c.in-Word.is),
      omega (arith, c.named.ensures.1, base),
    )

pub returns-in-Byte : goal.returns-in-Byte
returns-in-Byte c =
    let a = c.args in
    let base : c.in-Byte.base ≡ base_of a.font = sym (ap base_of c.in-Byte.is) in (
      c.named-in-Byte.ensures.0
          ∙ ap (λ (w : ℕ). c.in-Byte.base + 2 * w) (c.word-in-Byte.ensures ∙ ap (word_at a.store.now) c.offset_at-at.ensures.0)
          ∙ sym (descriptor_byte a.store.now a.string a.k _ c.in-Byte.is),
      omega (arith, c.named-in-Byte.ensures.1, base),
    )
