-- A font by its kind: where the descriptor of a character stands, and where the font's base.
use mathlib.Core.Path.{◌≡◌}
use mathlib.Core.Bool.{false}
use mathlib.Core.List.{List}
use Prim.Native.Nat.{ℕ, ◌+◌, ◌*◌, ◌%◌, ◌<◌}
use native.Mathlib.Omega.{arith}
use lib.Dec.{leb, eqb}
use lib.ListN.{get_or}
use borrow.Author.Tests.{leb-false}
use Rattle.model.specs.declared.Font.{Font}
use Rattle.model.specs.declared.Font.TheVariants as font
use Rattle.model.specs.Words.{word_at, address_end}
use Rattle.model.specs.Setup.{base_bad, font_bad}
use Rattle.model.specs.Glyphs.{base_of, offset_word, selector, descriptor}
use Rattle.model.proofs.Decisions.{either_false}

module _ (store : List ℕ) (string k : ℕ) {f : Font} where
  pub descriptor_absent : f ≡ font.Absent → descriptor f store string k ≡ 0
  unfolding descriptor selector
  descriptor_absent e = rw e

  pub descriptor_word : (base : ℕ) → f ≡ font.Word base → descriptor f store string k ≡ base + 2 * word_at store (string + 2 * k)
  unfolding descriptor selector
  descriptor_word base e = rw e

  pub descriptor_byte : (base : ℕ) → f ≡ font.Byte base → descriptor f store string k ≡ base + 2 * word_at store (offset_word base (get_or store (string + k) 0))
  unfolding descriptor selector
  descriptor_byte base e = rw e

-- "a font base .. above 22 bits" is refused
base_small : (a : ℕ) → base_bad a ≡ false → a < address_end
base_small a h = leb-false address_end a (either_false (eqb (a % 2) 1) (leb address_end a) h).1

pub base_of_small : (f : Font) → font_bad f ≡ false → base_of f < address_end
base_of_small font.Absent h = omega arith
base_of_small (font.Word a) h = base_small a h
base_of_small (font.Byte a) h = base_small a h
