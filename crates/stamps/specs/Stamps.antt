-- Stamps: what a pen makes of the byte that holds a pixel, (old & keep) ^ flip, for each place of a pixel in its word.
use Rattle.std.specs.Prelude.{◌≡◌, ◌⊎◌, Bool, cond, List, ℕ, ◌+◌, ◌-◌, ◌*◌, ◌/◌, ◌%◌, ◌≤◌, ◌<◌, length, get_or, set}
use Rattle.std.specs.Int.Bits.{bit_xor}
use Rattle.model.specs.Words.{bit, digit, within}
use Rattle.model.specs.declared.Pen.{Pen}
use Rattle.strips.specs.Strips.{mixed, mixed_bit, pen_bit}
use Rattle.strips.specs.declared.inks.Ink.{Ink}

-- bit j of a byte belongs to the pixel of b bits at bit o of its word, from the left
abbrev pub of_pixel : ℕ → ℕ → ℕ → Bool
of_pixel b o j = within (8 - b - o % 8) b j

-- which bit of the word that bit j of the pixel's byte is: a word's first eight bits, from the left, are its high byte
abbrev pub word_bit : ℕ → ℕ → ℕ
word_bit o j = 8 * (1 - o / 8) + j

-- ## Eight bytes at once

-- byte k of the cover has the bits of the pixel that begins at bit k of its byte, from the left
pub record CoverOf (b cover : ℕ) : Type 0 where
  pub bits : (q j : ℕ) → q * b < 16 → j < 8 → bit cover (8 * (q * b % 8) + j) ≡ of_pixel b (q * b) j

-- a byte's bits, eight times, where the cover is 1, else those of `rest`
pub record Covered (cover rest byte r : ℕ) : Type 0 where
  pub bits : (i : ℕ) → i < 64 → bit r i ≡ cond (bit cover i) (bit byte (i % 8)) (bit rest i)

-- ## The table: what is kept under a pattern's 0 and under its 1, and then what is flipped

abbrev pub kept_at : List ℕ → ℕ → ℕ → ℕ
kept_at s on o = get_or s (16 * on + o) 0

abbrev pub flipped_at : List ℕ → ℕ → ℕ → ℕ
flipped_at s on o = get_or s (16 * on + o + 32) 0

-- sixteen bytes from `at` on, and sixteen 32 bytes further, make of a byte's bits under the cover what the ink makes of
-- them, and keep the others; all other bytes are kept
pub record Pressed (ink : Ink) (cover at : ℕ) (old new : List ℕ) : Type 0 where
  pub length : length new ≡ length old
  pub mixes : (o j : ℕ) → o < 16 → j < 8 → (d : Bool)
      → mixed_bit (get_or new (at + o) 0) (get_or new (at + o + 32) 0) j d
      ≡ cond (bit cover (8 * (o % 8) + j)) (mixed_bit ink.keep ink.flip (word_bit o j) d) d
  pub outside : (i : ℕ) → (i < at) ⊎ (at + 16 ≤ i) → (i < at + 32) ⊎ (at + 48 ≤ i) → get_or new i 0 ≡ get_or old i 0

-- the stamps of a pen, for pixels of b bits: a pixel's bits become what the pen makes of them, and the others of its
-- byte are kept
pub record StampsOf (pen : Pen) (b : ℕ) (s : List ℕ) : Type 0 where
  pub length : length s ≡ 64
  pub mixes : (on : Bool) (q j : ℕ) → q * b < 16 → j < 8 → (d : Bool)
      → mixed_bit (kept_at s (digit on) (q * b)) (flipped_at s (digit on) (q * b)) j d
      ≡ cond (of_pixel b (q * b) j) (pen_bit pen on (word_bit (q * b) j) d) d

-- ## One pixel

-- the byte that holds the pixel at bit o, from the left, of the row that begins at byte `row`
abbrev pub stamp_byte : ℕ → ℕ → ℕ
stamp_byte row o = row + bit_xor (o / 8) 1

-- .. stamped under a pattern's bit
unfoldable pub stamped : List ℕ → ℕ → ℕ → ℕ → List ℕ → List ℕ
stamped s row o on buffer =
    set buffer (stamp_byte row o)
    (mixed (get_or buffer (stamp_byte row o) 0) (kept_at s on (o % 16)) (flipped_at s on (o % 16)))
