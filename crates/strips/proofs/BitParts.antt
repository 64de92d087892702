-- The bits of a number made of parts, or chosen bit by bit.
use mathlib.Core.Path.{◌≡◌, refl, sym, ap, ap₂, ◌∙◌}
use mathlib.Core.Bool.{Bool, true, false, cond, ◌&&◌}
use Prim.Native.Nat.{ℕ, zero, suc, ◌+◌, ◌-◌, ◌*◌, ◌/◌, ◌%◌, ◌^◌, ◌≤◌, ◌<◌}
use native.Mathlib.Omega.{arith}
use native.Mathlib.Nat.{mul_comm, add_comm}
use native.Mathlib.Decide.{dec_lt}
use lib.Bits.{bit_and, bit_or, bit_xor, and_le_l, and_le_r, or_add_and}
use lib.Pow.{low, high}
use Rattle.model.specs.Words.{bit}
use Rattle.model.proofs.BitLaws.{bit_shr}
use Rattle.raster.proofs.BitLaws.{bit_zero, bit_mod, bit_and_lem, bit_xor_lem, differs, mux_bit}
use Rattle.strips.specs.Strips.{Fourfold, Muxed, Under}

-- ## x below bit k, y from there on

module _ (k x y : ℕ) (h : x < 2 ^ k) where
  whole : x + 2 ^ k * y ≡ y * 2 ^ k + x
  whole = add_comm x (2 ^ k * y) ∙ ap (λ (z : ℕ). z + x) (mul_comm (2 ^ k) y)

  pub bit_low : (i : ℕ) → i < k → bit (x + 2 ^ k * y) i ≡ bit x i
  bit_low i l = sym (bit_mod k (x + 2 ^ k * y) i l) ∙ ap (λ (z : ℕ). bit z i) (ap (λ (z : ℕ). z % 2 ^ k) whole ∙ low y k h)

  pub bit_high : (i : ℕ) → k ≤ i → bit (x + 2 ^ k * y) i ≡ bit y (i - k)
  bit_high i l =
      let e : i ≡ k + (i - k) = omega arith in
      ap (bit (x + 2 ^ k * y)) e ∙ sym (bit_shr (x + 2 ^ k * y) k (i - k))
      ∙ ap (λ (z : ℕ). bit z (i - k)) (ap (λ (z : ℕ). z / 2 ^ k) whole ∙ high y k h)

-- no bits from bit k on
pub bit_beyond : (k x i : ℕ) → x < 2 ^ k → k ≤ i → bit x i ≡ false
bit_beyond k x i h l =
    let e : x ≡ x + 2 ^ k * 0 = omega arith in
    ap (λ (z : ℕ). bit z i) e ∙ bit_high k x 0 h i l ∙ bit_zero (i - k)

-- byte k of a number
pub byte_bit : (x k j : ℕ) → j < 8 → bit (x / 2 ^ (8 * k) % 2 ^ 8) j ≡ bit x (8 * k + j)
byte_bit x k j h = bit_mod 8 (x / 2 ^ (8 * k)) j h ∙ bit_shr x (8 * k) j

-- ## A word again and again

unfoldable again : ℕ → ℕ → ℕ
again w zero = 0
again w (suc n) = w + 65536 * again w n

again_bit : (w : ℕ) → w < 65536 → (n i : ℕ) → i < 16 * n → bit (again w n) i ≡ bit w (i % 16)
unfolding again
again_bit w h zero i l = absurd (omega arith)
again_bit w h (suc n) i l = go (again_bit w h n) (dec_lt i 16)
  where
    go : ((i : ℕ) → i < 16 * n → bit (again w n) i ≡ bit w (i % 16)) → Dec (i < 16) → bit (w + 65536 * again w n) i ≡ bit w (i % 16)
    go rest (yes a) = let e : i ≡ i % 16 = omega arith in bit_low 16 w (again w n) h i a ∙ ap (bit w) e
    go rest (no a) =
        let e : (i - 16) % 16 ≡ i % 16 = omega arith in
        bit_high 16 w (again w n) h i (omega arith) ∙ rest (i - 16) (omega arith) ∙ ap (bit w) e

pub fourfold : (w : ℕ) → w < 65536 → Fourfold w (w * 0x0001000100010001)
unfolding again
fourfold w h i l =
    let e : w * 0x0001000100010001 ≡ w + 65536 * (w + 65536 * (w + 65536 * (w + 65536 * 0))) = omega arith in
    ap (λ (z : ℕ). bit z i) e ∙ again_bit w h 4 i (omega arith)

-- ## x ^ ((x ^ y) & m) is y where m is 1, else x

pub either : (m : Bool) (f b i : ℕ) → cond m (bit f i) (bit b i) ≡ bit (cond m f b) i
either true f b i = refl
either false f b i = refl

pub choice_bit : (x y m i : ℕ) → bit (bit_xor x (bit_and (bit_xor x y) m)) i ≡ bit (cond (bit m i) y x) i
choice_bit x y m i =
    bit_xor_lem i x (bit_and (bit_xor x y) m)
    ∙ ap (differs (bit x i)) (bit_and_lem i (bit_xor x y) m ∙ ap (λ (z : Bool). z && bit m i) (bit_xor_lem i x y))
    ∙ mux_bit (bit m i) (bit x i) (bit y i) ∙ either (bit m i) y x i

-- between two words, each four times
pub under_is : (m f b x y r : ℕ) → Fourfold b x → Fourfold f y → Muxed m x y r → Under m f b r
under_is m f b x y r p q e i h =
    e i ∙ sym (either (bit m i) y x i) ∙ ap₂ (cond (bit m i)) (q i h) (p i h) ∙ either (bit m i) f b (i % 16)

-- ## x | y

pub or_none : (x y : ℕ) → bit_or x y ≡ 0 → (x ≡ 0) × (y ≡ 0)
or_none x y e = (omega (arith, e, or_add_and x y, and_le_r x y), omega (arith, e, or_add_and x y, and_le_l x y))
