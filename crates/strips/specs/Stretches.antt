-- A stretch of one row: its bits from the left, lo to hi - 1, become g of themselves, all others stay.
use Rattle.std.specs.Prelude.{◌≡◌, ◌⊎◌, Bool, List, ℕ, ◌+◌, ◌-◌, ◌*◌, ◌/◌, ◌%◌, ◌≤◌, ◌<◌, length}
use Rattle.model.specs.Words.{bit_at}

-- where bit m of the buffer stands, from the left, in the row that begins at byte o: a word's first pixel is in its
-- high bits
abbrev pub across : ℕ → ℕ → ℕ
across o m = 16 * ((m - 8 * o) / 16) + (15 - (m - 8 * o) % 16)

-- bit m is one of the stretch
pub record In (o lo hi m : ℕ) : Type 0 where
  pub row : 8 * o ≤ m
  pub from : lo ≤ across o m
  pub to : across o m < hi

-- .. is none of it
abbrev pub Out : ℕ → ℕ → ℕ → ℕ → Type 0
Out o lo hi m = (m < 8 * o) ⊎ ((across o m < lo) ⊎ (hi ≤ across o m))

pub record Stretched (g : ℕ → Bool → Bool) (o lo hi : ℕ) (old new : List ℕ) : Type 0 where
  pub length : length new ≡ length old
  pub inside : (m : ℕ) → In o lo hi m → bit_at new m ≡ g m (bit_at old m)
  pub outside : (m : ℕ) → Out o lo hi m → bit_at new m ≡ bit_at old m
