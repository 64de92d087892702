-- Rows of cells: four of them as one number, and their 1s counted.
use mathlib.Core.Path.{◌≡◌, refl, sym, ap, ◌∙◌}
use mathlib.Core.Logic.{◌⊎◌, inl, inr}
use mathlib.Core.List.{List}
use Prim.Native.Nat.{ℕ, zero, suc, ◌+◌, ◌-◌, ◌*◌, ◌/◌, ◌%◌, ◌^◌, ◌≤◌, ◌<◌}
use native.Mathlib.Nat.{mul-le-mul_left}
use native.Mathlib.Omega.{arith}
use native.Mathlib.Decide.{dec_lt}
use lib.ListN.{length, get_or, set, length-set}
use lib.Seq.{get_or-set_same, get_or-set_other}
use Rattle.model.specs.Words.{bit}
use Rattle.model.proofs.BitLaws.{bit_shr}
use Rattle.raster.proofs.BitLaws.{bit_mod, bit_shl}
use Rattle.strips.specs.Strokes.{shown, pattern_on}
use Rattle.strips.proofs.BitParts.{bit_low, bit_high, bit_beyond}
use Rattle.strips.proofs.HitLaws.{shown_add, shown_none, shown_cong, shown_from}
pub use Rattle.strips.proofs.HitLaws.{shown_le}
use Rattle.grids.specs.Grids.{ones_in, grid_bit, FourRows, WithRows}

-- ## The 1s of rows

-- at most all cells
pub ones_in_most : (rows : List ℕ) (i m n j : ℕ) → ones_in rows i m j n ≤ n * m
unfolding ones_in
ones_in_most rows i m zero j = omega arith
ones_in_most rows i m (suc n) j = omega (arith, shown_le (pattern_on (get_or rows j 0)) m i, ones_in_most rows i m n (suc j))

-- .. so sixteen rows have few enough
pub ones_in_few : (rows : List ℕ) (i m j n : ℕ) → m ≤ 16 → n ≤ 16 → ones_in rows i m j n ≤ 256
ones_in_few rows i m j n h k = omega (arith, ones_in_most rows i m n j, mul-le-mul_left n h)

-- one row more at the end
pub ones_in_last : (rows : List ℕ) (i m n j : ℕ)
    → ones_in rows i m j (suc n) ≡ ones_in rows i m j n + shown (pattern_on (get_or rows (j + n) 0)) i m
unfolding ones_in
ones_in_last rows i m zero j =
    let e : j + 0 ≡ j = omega arith in
    let z : shown (pattern_on (get_or rows j 0)) i m + 0 ≡ 0 + shown (pattern_on (get_or rows j 0)) i m = omega arith in
    rw e z
ones_in_last rows i m (suc n) j =
    let e : j + suc n ≡ suc j + n = omega arith in
    let x : ℕ = shown (pattern_on (get_or rows j 0)) i m in
    let z : x + ones_in rows i m (suc j) (suc n) ≡ x + ones_in rows i m (suc j) n + shown (pattern_on (get_or rows (suc j + n) 0)) i m
    = omega (arith, ones_in_last rows i m n (suc j)) in
    rw e z

-- .. of rows j to k - 1
pub ones_in_next : (rows : List ℕ) (i m j k : ℕ) → j ≤ k
    → ones_in rows i m j (k + 1 - j) ≡ ones_in rows i m j (k - j) + shown (pattern_on (get_or rows k 0)) i m
ones_in_next rows i m j k h =
    let e : k + 1 - j ≡ suc (k - j) = omega arith in
    let z : j + (k - j) ≡ k = omega arith in
    rw e (rw z at (ones_in_last rows i m (k - j) j))

pub ruleset counts = (shown_le, ones_in_most, ones_in_few, ones_in_next)

-- a row's n cells from cell `hidden` on, shifted to the low end
pub cells_shown : (row hidden n : ℕ) → hidden + n ≤ 16
    → shown (pattern_on (row * 2 ^ hidden % 2 ^ 16 / 2 ^ (16 - n))) 0 16 ≡ shown (pattern_on row) hidden n
cells_shown row hidden n h =
    let w : ℕ = row * 2 ^ hidden % 2 ^ 16 in
    let v : ℕ = w / 2 ^ (16 - n) in
    let e : 16 ≡ 16 - n + n = omega arith in
    let a : shown (pattern_on v) 0 (16 - n) ≡ 0
    = shown_none (pattern_on v) (16 - n) 0
    (λ k p q. bit_shr w (16 - n) (15 - k % 16) ∙ bit_beyond 16 w (16 - n + (15 - k % 16)) (omega arith) (omega arith)) in
    let b : shown (pattern_on v) (0 + (16 - n)) n ≡ shown (pattern_on row) hidden n
    = shown_from (pattern_on v) n (0 + (16 - n))
    ∙ shown_cong (λ q. pattern_on v (0 + (16 - n) + q)) (λ q. pattern_on row (hidden + q)) n 0 (λ q p l. cell q l)
    ∙ sym (shown_from (pattern_on row) n hidden) in
    ap (shown (pattern_on v) 0) e ∙ shown_add (pattern_on v) (16 - n) n 0
    ∙ (let z : shown (pattern_on v) 0 (16 - n) + shown (pattern_on v) (0 + (16 - n)) n ≡ shown (pattern_on row) hidden n = omega (arith, a, b) in z)
  where
    cell : (q : ℕ) → q < 0 + n
        → bit (row * 2 ^ hidden % 2 ^ 16 / 2 ^ (16 - n)) (15 - (0 + (16 - n) + q) % 16) ≡ bit row (15 - (hidden + q) % 16)
    cell q l =
        let x : 16 - n + (15 - (0 + (16 - n) + q) % 16) ≡ hidden + (15 - (hidden + q) % 16) = omega arith in
        bit_shr (row * 2 ^ hidden % 2 ^ 16) (16 - n) (15 - (0 + (16 - n) + q) % 16)
        ∙ ap (bit (row * 2 ^ hidden % 2 ^ 16)) x
        ∙ bit_mod 16 (row * 2 ^ hidden) (hidden + (15 - (hidden + q) % 16)) (omega arith) ∙ bit_shl row hidden (15 - (hidden + q) % 16)

-- ## Four rows as one number

unfoldable rows_num : List ℕ → ℕ → ℕ → ℕ
rows_num rows j zero = 0
rows_num rows j (suc n) = get_or rows j 0 + 2 ^ 16 * rows_num rows (j + 1) n

module _ (rows : List ℕ) (words : (j : ℕ) → get_or rows j 0 < 2 ^ 16) where
  rows_bit : (n j i : ℕ) → i < 16 * n → bit (rows_num rows j n) i ≡ grid_bit rows (16 * j + i)
  unfolding rows_num grid_bit
  rows_bit zero j i h = absurd (omega arith)
  rows_bit (suc n) j i h = go (rows_bit n (j + 1)) (dec_lt i 16)
    where
      go : ((i : ℕ) → i < 16 * n → bit (rows_num rows (j + 1) n) i ≡ grid_bit rows (16 * (j + 1) + i)) → Dec (i < 16)
          → bit (get_or rows j 0 + 2 ^ 16 * rows_num rows (j + 1) n) i ≡ bit (get_or rows ((16 * j + i) / 16) 0) ((16 * j + i) % 16)
      go more (yes a) =
          let q : (16 * j + i) / 16 ≡ j = omega arith in
          let r : (16 * j + i) % 16 ≡ i = omega arith in
          rw (q, r) (bit_low 16 (get_or rows j 0) (rows_num rows (j + 1) n) (words j) i a)
      go more (no a) =
          let e : 16 * (j + 1) + (i - 16) ≡ 16 * j + i = omega arith in
          bit_high 16 (get_or rows j 0) (rows_num rows (j + 1) n) (words j) i (omega arith) ∙ more (i - 16) (omega arith) ∙ ap (grid_bit rows) e

-- as the code has their sum
abbrev pub four_sum : ℕ → ℕ → ℕ → ℕ → ℕ
four_sum a b c d = a + b * 2 ^ 16 % 2 ^ 64 + c * 2 ^ 32 % 2 ^ 64 + d * 2 ^ 48 % 2 ^ 64

module _ (a b c d : ℕ) (h : a < 2 ^ 16) (k : b < 2 ^ 16) (l : c < 2 ^ 16) (m : d < 2 ^ 16) where
  four_nested : four_sum a b c d ≡ a + 2 ^ 16 * (b + 2 ^ 16 * (c + 2 ^ 16 * (d + 2 ^ 16 * 0)))
  four_nested = omega arith

pub four_rows : (rows : List ℕ) → ((j : ℕ) → get_or rows j 0 < 2 ^ 16) → (w : ℕ)
    → FourRows rows w (four_sum (get_or rows (4 * w) 0) (get_or rows (4 * w + 1) 0) (get_or rows (4 * w + 2) 0) (get_or rows (4 * w + 3) 0))
unfolding rows_num
four_rows rows words w = record {
  bits = λ i h.
      let e : 16 * (4 * w) + i ≡ 64 * w + i = omega arith in
      let one : 4 * w + 1 + 1 ≡ 4 * w + 2 = omega arith in
      let two : 4 * w + 2 + 1 ≡ 4 * w + 3 = omega arith in
      ap (λ (z : ℕ). bit z i) (four_nested _ _ _ _ (words (4 * w)) (words (4 * w + 1)) (words (4 * w + 2)) (words (4 * w + 3)))
      ∙ rw (one, two, e) at (rows_bit rows words 4 (4 * w) i h);
}

-- ## Four rows put in their place

below_four : (P : ℕ → Type 0) → P 0 → P 1 → P 2 → P 3 → (m : ℕ) → m < 4 → P m
below_four P a b c d zero h = a
below_four P a b c d (suc zero) h = b
below_four P a b c d (suc (suc zero)) h = c
below_four P a b c d (suc (suc (suc zero))) h = d
below_four P a b c d (suc (suc (suc (suc m)))) h = absurd (omega arith)

module _ (l : List ℕ) (a v₀ v₁ v₂ v₃ : ℕ) (h : a + 4 ≤ length l) where
  abbrev l₁ : List ℕ
  l₁ = set l a v₀

  abbrev l₂ : List ℕ
  l₂ = set l₁ (a + 1) v₁

  abbrev l₃ : List ℕ
  l₃ = set l₂ (a + 2) v₂

  abbrev l₄ : List ℕ
  l₄ = set l₃ (a + 3) v₃

  long₁ : length l₁ ≡ length l
  long₁ = length-set l a v₀

  long₂ : length l₂ ≡ length l
  long₂ = length-set l₁ (a + 1) v₁ ∙ long₁

  long₃ : length l₃ ≡ length l
  long₃ = length-set l₂ (a + 2) v₂ ∙ long₂

  stored : (v : ℕ → ℕ) → v₀ ≡ v 0 → v₁ ≡ v 1 → v₂ ≡ v 2 → v₃ ≡ v 3 → (m : ℕ) → m < 4 → get_or l₄ (a + m) 0 ≡ v m
  stored v e₀ e₁ e₂ e₃ = below_four (λ m. get_or l₄ (a + m) 0 ≡ v m)
      (get_or-set_other l₃ (a + 3) (a + 0) v₃ 0 (λ e. omega arith) ∙ get_or-set_other l₂ (a + 2) (a + 0) v₂ 0 (λ e. omega arith)
      ∙ get_or-set_other l₁ (a + 1) (a + 0) v₁ 0 (λ e. omega arith) ∙ rw z (get_or-set_same l a v₀ 0 (omega arith)) ∙ e₀)
      (get_or-set_other l₃ (a + 3) (a + 1) v₃ 0 (λ e. omega arith) ∙ get_or-set_other l₂ (a + 2) (a + 1) v₂ 0 (λ e. omega arith)
      ∙ get_or-set_same l₁ (a + 1) v₁ 0 (omega (arith, long₁)) ∙ e₁)
      (get_or-set_other l₃ (a + 3) (a + 2) v₃ 0 (λ e. omega arith) ∙ get_or-set_same l₂ (a + 2) v₂ 0 (omega (arith, long₂)) ∙ e₂)
      (get_or-set_same l₃ (a + 3) v₃ 0 (omega (arith, long₃)) ∙ e₃)
    where
      z : a + 0 ≡ a
      z = omega arith

  kept : (j : ℕ) → (j < a) ⊎ (a + 4 ≤ j) → get_or l₄ j 0 ≡ get_or l j 0
  kept j o =
      get_or-set_other l₃ (a + 3) j v₃ 0 (apart o 3 (omega arith)) ∙ get_or-set_other l₂ (a + 2) j v₂ 0 (apart o 2 (omega arith))
      ∙ get_or-set_other l₁ (a + 1) j v₁ 0 (apart o 1 (omega arith)) ∙ get_or-set_other l a j v₀ 0 (λ e. apart o 0 (omega arith) (omega arith))
    where
      apart : (j < a) ⊎ (a + 4 ≤ j) → (m : ℕ) → m < 4 → j ≡ a + m → ⊥
      apart (inl p) m l e = omega arith
      apart (inr p) m l e = omega arith

pub with_rows : (rows : List ℕ) (w q : ℕ) → length rows ≡ 16 → w < 4 → q < 2 ^ 64
    → WithRows rows w q
    (set (set (set (set rows (4 * w) (q % 2 ^ 16)) (4 * w + 1) (q / 2 ^ 16 % 2 ^ 16)) (4 * w + 2) (q / 2 ^ 32 % 2 ^ 16)) (4 * w + 3) (q / 2 ^ 48))
with_rows rows w q n h f = record {
  inside = stored rows (4 * w) _ _ _ _ (omega arith) (λ m. q / 2 ^ (16 * m) % 2 ^ 16) (omega arith) refl refl (omega arith);
  outside = kept rows (4 * w) _ _ _ _ (omega arith);
}
