-- A pattern bit by bit.
use Rattle.std.proofs.Common.{◌≡◌, ℕ, ◌+◌, ◌-◌, ◌/◌, ◌%◌, ◌^◌, ◌<◌, sym, refl, ap, ◌∙◌, arith}
use Rattle.model.specs.Words.{bit, digit}
use Rattle.raster.proofs.Table.{each}
use Rattle.strips.specs.Strips.{RotatedLeft}
use Rattle.strips.proofs.HitLaws.{digit_bit}
use Rattle.traces.specs.Walks.{solid, pattern_digit}

-- rotated by more than its sixteen bits
pub rotated_whole : (pattern n p : ℕ) → RotatedLeft pattern (n % 16) p → RotatedLeft pattern n p
rotated_whole pattern n p f k = f k ∙ (let e : (k + n % 16) % 16 ≡ (k + n) % 16 = omega arith in ap (λ (m : ℕ). bit pattern (15 - m)) e)

-- its first bit as a number
pub first_digit : (p : ℕ) → p < 65536 → p / 32768 ≡ pattern_digit p 0
first_digit p h = let e : p / 32768 ≡ p / 2 ^ 15 % 2 = omega arith in e ∙ sym (digit_bit p 15)

-- its bits from one on are those of the pattern that it is rotated from
pub digits_of : (pattern i index p : ℕ) → RotatedLeft pattern ((i + index) % 16) p → (k : ℕ)
    → pattern_digit p k ≡ digit (bit pattern (15 - (i + k + index) % 16))
digits_of pattern i index p r k =
    let e : k + (i + index) ≡ i + k + index = omega arith in
    ap digit (rotated_whole pattern (i + index) p r k) ∙ ap (λ (m : ℕ). digit (bit pattern (15 - m % 16))) e

-- all its bits are 1
pub digits_solid : (p : ℕ) → p ≡ 65535 → (k : ℕ) → solid k ≡ pattern_digit p k
unfolding bit
digits_solid p e k =
    sym (each 16 (λ j. digit (bit 65535 j)) (λ j. 1) refl (15 - k % 16) (omega arith)) ∙ ap (λ (z : ℕ). digit (bit z (15 - k % 16))) (sym e)
