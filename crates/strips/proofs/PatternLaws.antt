-- The four depths; a pattern rotated, and from the other end.
use Rattle.std.specs.Int.{w16, rotate_left, reverse_bits, reverse_bits_onto}
use mathlib.Core.Path.{◌≡◌, refl, sym, ap, ap₂, ◌∙◌}
use Prim.Native.Nat.{ℕ, zero, suc, ◌+◌, ◌-◌, ◌*◌, ◌/◌, ◌%◌, ◌^◌, ◌≤◌, ◌<◌}
use native.Mathlib.Omega.{arith}
use native.Mathlib.Decide.{ℕ_discrete, dec_lt}
use lib.Dec.{eqb}
use Rattle.model.specs.Words.{bit}
use Rattle.model.proofs.BitLaws.{bit_shr}
use Rattle.model.specs.Bitmaps.{Depth}
use Rattle.model.proofs.PlaceLaws.{depth_bounds}
use mathlib.Core.Bool.{Bool, true, false, ◌||◌}
use native.Mathlib.Nat.{mul-mod_left}
use Rattle.raster.proofs.BitLaws.{bit_mod, bit_shl, bit_zero, bit_or_lem}
use Rattle.strips.specs.Strips.{RotatedLeft, Reversed}
use Rattle.strips.proofs.BitParts.{bit_beyond}

-- ## The four depths

factor : (b e : ℕ) → b * e ≡ 8 → b ≤ 8 → (b ≡ 1 → ⊥) → (b ≡ 2 → ⊥) → (b ≡ 4 → ⊥) → b ≡ 8
factor b e h l p q r = go (dec_lt b 1) (dec_lt b 4) (dec_lt b 5) (dec_lt b 6) (dec_lt b 7) (dec_lt b 8)
  where
    is : (k : ℕ) → b ≡ k → k * e ≡ 8
    is k z = ap (λ (i : ℕ). i * e) (sym z) ∙ h

    go : Dec (b < 1) → Dec (b < 4) → Dec (b < 5) → Dec (b < 6) → Dec (b < 7) → Dec (b < 8) → b ≡ 8
    go (yes a) _ _ _ _ _ = absurd (omega (arith, is 0 (omega arith)))
    go (no a) (yes c) _ _ _ _ = absurd (omega (arith, is 3 (omega arith)))
    go (no a) (no c) (yes d) _ _ _ = absurd (omega arith)
    go (no a) (no c) (no d) (yes f) _ _ = absurd (omega (arith, is 5 (omega arith)))
    go (no a) (no c) (no d) (no f) (yes g) _ = absurd (omega (arith, is 6 (omega arith)))
    go (no a) (no c) (no d) (no f) (no g) (yes i) = absurd (omega (arith, is 7 (omega arith)))
    go (no a) (no c) (no d) (no f) (no g) (no i) = omega arith

pub depth_8 : {b : ℕ} → Depth b → (b ≡ 1 → ⊥) → (b ≡ 2 → ⊥) → (b ≡ 4 → ⊥) → b ≡ 8
depth_8 {b} d p q r = factor b d.e d.fills (depth_bounds d).1 p q r

-- what holds at 1, 2, 4 and 8 holds at every depth
pub depth_elim : (P : ℕ → Type 0) → P 1 → P 2 → P 4 → P 8 → {b : ℕ} → Depth b → P b
depth_elim P p1 p2 p4 p8 {b} d = go (ℕ_discrete b 1) (ℕ_discrete b 2) (ℕ_discrete b 4)
  where
    go : Dec (b ≡ 1) → Dec (b ≡ 2) → Dec (b ≡ 4) → P b
    go (yes e) _ _ = rw e p1
    go (no a) (yes e) _ = rw e p2
    go (no a) (no c) (yes e) = rw e p4
    go (no a) (no c) (no f) = rw (depth_8 d a c f) p8

-- a word's pixels fill it
pub pixels_fill : {b : ℕ} → Depth b → 16 / b * b ≡ 16
pixels_fill d = depth_elim (λ b. 16 / b * b ≡ 16) refl refl refl refl d

-- ## A pattern rotated

-- bits shifted up
raised : (p s j : ℕ) → s ≤ j → bit (p * 2 ^ s) j ≡ bit p (j - s)
raised p s j h = let e : j ≡ s + (j - s) = omega arith in ap (bit (p * 2 ^ s)) e ∙ bit_shl p s (j - s)

none_below : (p s j : ℕ) → j < s → bit (p * 2 ^ s) j ≡ false
none_below p s j h = sym (bit_mod s (p * 2 ^ s) j h) ∙ ap (λ (z : ℕ). bit z j) (mul-mod_left p (2 ^ s)) ∙ bit_zero j

either : (x : Bool) → (x || false) ≡ x
either true = refl
either false = refl

pub rotated_is : (p s : ℕ) → p < 65536 → s < 16 → RotatedLeft p s (rotate_left w16 p s)
rotated_is p s h l k =
    let m : s % 16 ≡ s = omega arith in
    let n : 15 - k % 16 < 16 = omega arith in
    rw m (bit_or_lem (15 - k % 16) (p * 2 ^ s % 2 ^ 16) (p / 2 ^ ((16 - s) % 16))
    ∙ ap₂ (λ (x y : Bool). x || y) (bit_mod 16 (p * 2 ^ s) (15 - k % 16) n) (bit_shr p ((16 - s) % 16) (15 - k % 16))
    ∙ go (15 - k % 16) refl (dec_lt (15 - k % 16) s) (ℕ_discrete s 0))
  where
    go : (j : ℕ) → j ≡ 15 - k % 16 → Dec (j < s) → Dec (s ≡ 0) → (bit (p * 2 ^ s) j || bit p ((16 - s) % 16 + j)) ≡ bit p (15 - (k + s) % 16)
    go j e (yes a) d =
        let z : (16 - s) % 16 + j ≡ 15 - (k + s) % 16 = omega arith in
        ap₂ (λ (x y : Bool). x || y) (none_below p s j a) (ap (bit p) z)
    go j e (no a) (yes d) =
        let y : j - s ≡ 15 - (k + s) % 16 = omega arith in
        let z : (16 - s) % 16 + j ≡ 15 - (k + s) % 16 = omega arith in
        ap₂ (λ (x y : Bool). x || y) (raised p s j (omega arith) ∙ ap (bit p) y) (ap (bit p) z) ∙ same (bit p (15 - (k + s) % 16))
      where
        same : (x : Bool) → (x || x) ≡ x
        same true = refl
        same false = refl
    go j e (no a) (no d) =
        let y : j - s ≡ 15 - (k + s) % 16 = omega arith in
        ap₂ (λ (x y : Bool). x || y) (raised p s j (omega arith) ∙ ap (bit p) y) (bit_beyond 16 p ((16 - s) % 16 + j) h (omega arith))
        ∙ either (bit p (15 - (k + s) % 16))

-- ## A pattern from the other end

-- what stood there already is shifted up
onto_high : (k n a j : ℕ) → bit (reverse_bits_onto k n a) (k + j) ≡ bit a j
unfolding reverse_bits_onto bit
onto_high zero n a j = let e : 0 + j ≡ j = omega arith in ap (bit a) e
onto_high (suc k) n a j =
    let e : suc k + j ≡ k + suc j = omega arith in
    let h : (a * 2 + n % 2) / 2 ≡ a = omega arith in
    ap (bit (reverse_bits_onto k (n / 2) (a * 2 + n % 2))) e ∙ onto_high k (n / 2) (a * 2 + n % 2) (suc j) ∙ ap (λ (z : ℕ). bit z j) h

onto_low : (k n a j : ℕ) → j < k → bit (reverse_bits_onto k n a) j ≡ bit n (k - 1 - j)
unfolding reverse_bits_onto bit
onto_low zero n a j h = absurd (omega arith)
onto_low (suc k) n a j h = go (onto_low k (n / 2) (a * 2 + n % 2) j) (dec_lt j k)
  where
    go : (j < k → bit (reverse_bits_onto k (n / 2) (a * 2 + n % 2)) j ≡ bit (n / 2) (k - 1 - j)) → Dec (j < k)
        → bit (reverse_bits_onto k (n / 2) (a * 2 + n % 2)) j ≡ bit n (suc k - 1 - j)
    go rest (yes l) = let e : suc (k - 1 - j) ≡ suc k - 1 - j = omega arith in rest l ∙ ap (bit n) e
    go rest (no l) =
        let e : j ≡ k + 0 = omega arith in
        let f : 0 ≡ suc k - 1 - j = omega arith in
        let g : (a * 2 + n % 2) % 2 ≡ n % 2 = omega arith in
        ap (bit (reverse_bits_onto k (n / 2) (a * 2 + n % 2))) e ∙ onto_high k (n / 2) (a * 2 + n % 2) 0
        ∙ ap (λ (z : ℕ). eqb z 1) g ∙ ap (bit n) f

pub reversed_is : (x : ℕ) → Reversed x (reverse_bits w16 x)
reversed_is x j h = onto_low 16 x 0 j h
