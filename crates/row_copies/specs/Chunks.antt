-- Words of a row fetched at any bit, and eight words at once.
use Rattle.std.specs.Prelude.{◌≡◌, ◌⊎◌, cond, List, ℕ, ◌+◌, ◌-◌, ◌*◌, ◌/◌, ◌≤◌, ◌<◌, length, get_or}
use Rattle.model.specs.Words.{bit, bit_at, word_at}
use Rattle.row_copies.specs.declared.operators.Operator.{Operator}
use Rattle.row_copies.specs.Rows.{operator_bit, left_bit}

-- each bit y's where m's is 1, else x's
pub record Muxed (m x y r : ℕ) : Type 0 where
  pub bits : (j : ℕ) → bit r j ≡ cond (bit m j) (bit y j) (bit x j)

-- the 16 bits from bit k on, from the left, of two words one after the other
pub record Funnelled (x y k r : ℕ) : Type 0 where
  pub bits : (t : ℕ) → t < 16 → bit r (15 - t) ≡ bit (y + 65536 * x) (31 - (k + t))

-- word k - 1 of a row, where there is one
pub record Peeked (s : List ℕ) (o k r : ℕ) : Type 0 where
  pub bits : (t : ℕ) → t < 16 → 1 ≤ k → o + 2 * k ≤ length s → bit r (15 - t) ≡ left_bit s o (16 * (k - 1) + t)

-- the 16 bits of a row from bit z - 16 on, those that are in the buffer
pub record FetchedBits (s : List ℕ) (o z r : ℕ) : Type 0 where
  pub bits : (t : ℕ) → t < 16 → 16 ≤ z + t → o + 2 * ((z + t) / 16) ≤ length s
      → bit r (15 - t) ≡ left_bit s o (z + t - 16)

-- ## Eight words at once, the first n of them

pub record Words8 (s : List ℕ) (at n : ℕ) (r : List ℕ) : Type 0 where
  pub words : (i : ℕ) → i < n → get_or r i 0 ≡ word_at s (at + 2 * i)

pub record Funnelled8 (x y : List ℕ) (k n : ℕ) (r : List ℕ) : Type 0 where
  pub words : (i : ℕ) → i < n → Funnelled (get_or x i 0) (get_or y i 0) k (get_or r i 0)

pub record Mixed8 (s old : List ℕ) (x : Operator) (n : ℕ) (r : List ℕ) : Type 0 where
  pub bits : (i : ℕ) → i < n → (j : ℕ)
      → bit (get_or r i 0) j ≡ operator_bit x j (bit (get_or s i 0) j) (bit (get_or old i 0) j)

pub record Put8 (at : ℕ) (t : List ℕ) (n : ℕ) (old new : List ℕ) : Type 0 where
  pub length : length new ≡ length old
  pub inside : (i j : ℕ) → i < n → j < 16 → bit_at new (8 * (at + 2 * i) + j) ≡ bit (get_or t i 0) j
  pub outside : (m : ℕ) → (m < 8 * at) ⊎ (8 * at + 16 * n ≤ m) → bit_at new m ≡ bit_at old m
