-- A word mixed under a cover.
use Rattle.std.specs.Prelude.{◌≡◌, ◌⊎◌, true, false, cond, List, ℕ, ◌+◌, ◌*◌, ◌≤◌, ◌<◌, length}
use Rattle.model.specs.Words.{bit, bit_at}
use Rattle.strips.specs.Strips.{mixed_bit}
use Rattle.strips.specs.declared.inks.Ink.{Ink}

-- the cover is 1 at a word's bits from the left, lead to tail - 1
pub record Covers (lead tail cover : ℕ) : Type 0 where
  pub on : (i : ℕ) → i < 16 → 16 ≤ i + tail → i + lead < 16 → bit cover i ≡ true
  pub off : (i : ℕ) → i < 16 → (i + tail < 16) ⊎ (16 ≤ i + lead) → bit cover i ≡ false

-- the word at byte `at` mixed where the cover is 1; all other bits kept
pub record Edged (at : ℕ) (ink : Ink) (cover : ℕ) (old new : List ℕ) : Type 0 where
  pub length : length new ≡ length old
  pub inside : (i : ℕ) → i < 16 → bit_at new (8 * at + i)
      ≡ cond (bit cover i) (mixed_bit ink.keep ink.flip i (bit_at old (8 * at + i))) (bit_at old (8 * at + i))
  pub outside : (m : ℕ) → (m < 8 * at) ⊎ (8 * at + 16 ≤ m) → bit_at new m ≡ bit_at old m
