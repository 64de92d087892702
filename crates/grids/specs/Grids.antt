-- Sixteen rows of sixteen cells, a word each, the leftmost cell in bit 15.
use Rattle.std.specs.Prelude.{◌≡◌, ◌⊎◌, Bool, cond, List, ℕ, zero, suc, ◌+◌, ◌-◌, ◌*◌, ◌/◌, ◌%◌, ◌^◌, ◌≤◌, ◌<◌, get_or}
use Rattle.model.specs.Words.{bit}
use Rattle.strips.specs.Strips.{Reversed}
use Rattle.strips.specs.Strokes.{shown, pattern_on}
use Rattle.grids.specs.declared.Pair.{Pair}

-- cell i, from the left, of row j
abbrev pub cell_on : List ℕ → ℕ → ℕ → Bool
cell_on rows i j = bit (get_or rows j 0) (15 - i)

-- rows and columns exchanged
pub record Transposed (rows r : List ℕ) : Type 0 where
  pub cells : (i j : ℕ) → i < 16 → j < 16 → cell_on r i j ≡ cell_on rows j i

-- each row from its other end
pub record Mirrored (rows r : List ℕ) : Type 0 where
  pub row : (j : ℕ) → j < 16 → Reversed (get_or rows j 0) (get_or r j 0)

-- how many cells are 1 in columns i .. i + m - 1 of rows j, j + 1, .. : n of them
unfoldable pub ones_in : List ℕ → ℕ → ℕ → ℕ → ℕ → ℕ
ones_in rows i m j zero = 0
ones_in rows i m j (suc n) = shown (pattern_on (get_or rows j 0)) i m + ones_in rows i m (suc j) n

-- ## Four rows as one number, the first lowest

-- bit p of the rows: bit p % 16 of row p / 16
unfoldable pub grid_bit : List ℕ → ℕ → Bool
grid_bit rows p = bit (get_or rows (p / 16) 0) (p % 16)

-- rows 4 w to 4 w + 3
pub record FourRows (rows : List ℕ) (w q : ℕ) : Type 0 where
  pub bits : (i : ℕ) → i < 64 → bit q i ≡ grid_bit rows (64 * w + i)

-- .. put in their place; all others kept
pub record WithRows (rows : List ℕ) (w q : ℕ) (r : List ℕ) : Type 0 where
  pub inside : (m : ℕ) → m < 4 → get_or r (4 * w + m) 0 ≡ q / 2 ^ (16 * m) % 2 ^ 16
  pub outside : (j : ℕ) → (j < 4 * w) ⊎ (4 * w + 4 ≤ j) → get_or r j 0 ≡ get_or rows j 0

-- bits of a where the mask is 1 exchanged with those of b that stand k bits higher
pub record Exchanged (a b k mask : ℕ) (r : Pair) : Type 0 where
  pub first : (i : ℕ) → bit r.first i ≡ cond (bit mask i) (bit b (k + i)) (bit a i)
  pub second : (i : ℕ) → i < 64 → bit r.second i ≡ cond (bit (mask * 2 ^ k) i) (bit a (i - k)) (bit b i)

-- .. of one number
pub record Turned (q k mask r : ℕ) : Type 0 where
  pub bits : (i : ℕ) → i < 64
      → bit r i ≡ cond (bit mask i) (bit q (k + i)) (cond (bit (mask * 2 ^ k) i) (bit q (i - k)) (bit q i))

-- where bit i stands before each four by four cells of four rows are transposed
abbrev pub in_block : ℕ → ℕ
in_block i = 16 * (3 - i % 4) + 4 * (i / 4 % 4) + (3 - i / 16)

-- each four by four cells of four rows transposed
pub record Blockwise (q r : ℕ) : Type 0 where
  pub bits : (i : ℕ) → i < 64 → bit r i ≡ bit q (in_block i)
