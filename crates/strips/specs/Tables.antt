-- What a table of strips makes of a row.
use Rattle.std.specs.Prelude.{◌≡◌, Bool, List, get_or, ℕ, ◌+◌, ◌-◌, ◌*◌, ◌/◌, ◌%◌, ◌<◌}
use Rattle.model.specs.Words.{bit}
use Rattle.strips.specs.Strips.{mixed_bit, keep_at, flip_at, per_at}
use Rattle.strips.specs.declared.inks.Ink.{Ink}

-- the strip that begins at word w of a row whose first pixel has pattern index `phase`
abbrev pub index_at : List ℕ → ℕ → ℕ → ℕ
index_at s phase w = (phase + w * per_at s) % 16

-- what the table makes of bit m of the row that begins at byte o
unfoldable pub brushed : List ℕ → ℕ → ℕ → ℕ → Bool → Bool
brushed s phase o m v =
    mixed_bit (keep_at s (index_at s phase ((m / 8 - o) / 2)) ((m / 8 - o) % 2))
    (flip_at s (index_at s phase ((m / 8 - o) / 2)) ((m / 8 - o) % 2)) (m % 8) v

-- what the table's bytes from `at` on make of a word
pub record InkAt (s : List ℕ) (at : ℕ) (ink : Ink) : Type 0 where
  pub keep : (i : ℕ) → i < 16 → bit ink.keep i ≡ bit (get_or s (at + i / 8) 0) (i % 8)
  pub flip : (i : ℕ) → i < 16 → bit ink.flip i ≡ bit (get_or s (at + 16 + i / 8) 0) (i % 8)
