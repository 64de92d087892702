-- A pattern spread over the pixels of a strip.
use mathlib.Core.Path.{◌≡◌, refl, sym, ap, ◌∙◌}
use Prim.Native.Nat.{ℕ, ◌+◌, ◌-◌, ◌*◌, ◌/◌, ◌%◌, ◌^◌, ◌≤◌, ◌<◌}
use native.Mathlib.Omega.{arith}
use native.Mathlib.Decide.{dec_lt}
use Rattle.model.specs.Bitmaps.{Depth}
use Rattle.model.specs.Words.{bit, num}
use Rattle.model.proofs.BitLaws.{bit_num, bit_shr}
use Rattle.raster.proofs.BitLaws.{num_lt, bit_mod}
use Rattle.raster.proofs.Table.{tabulate, each}
use Rattle.strips.specs.Stretches.{across}
use Rattle.strips.specs.Strips.{Fourfold, Spread, FirstOver, LastOver}
use Rattle.strips.proofs.BitParts.{bit_low, bit_high}
use Rattle.strips.proofs.PatternLaws.{depth_8, depth_elim}

-- ## Eight bits of a pattern

-- the pattern's bits over those of its pixels, as a number
abbrev pub spread_num : ℕ → ℕ → ℕ
spread_num bits x = num (8 * bits) (λ i. bit x (7 - across 0 i / bits))

pub spread_is : (bits : ℕ) (code : ℕ → ℕ) → tabulate 256 code ≡ tabulate 256 (spread_num bits) → (x : ℕ) → x < 256 → Spread bits x (code x)
spread_is bits code e x h =
    let z = each 256 code (spread_num bits) e x h in (
      omega (arith, z, num_lt (8 * bits) (λ i. bit x (7 - across 0 i / bits))),
      λ i l. ap (λ (r : ℕ). bit r i) z ∙ bit_num (8 * bits) (λ i. bit x (7 - across 0 i / bits)) i l,
    )

-- ## Its sixteen bits

-- n words on
pub across_on : (n k : ℕ) → across 0 (16 * n + k) ≡ 16 * n + across 0 k
across_on n k = omega arith

across_from : (n i : ℕ) → 16 * n ≤ i → across 0 i ≡ 16 * n + across 0 (i - 16 * n)
across_from n i h = let e : i ≡ 16 * n + (i - 16 * n) = omega arith in ap (across 0) e ∙ across_on n (i - 16 * n)

-- pixel c of the first eight is pixel d of the strip
upper : (p c d : ℕ) → c < 8 → d % 16 ≡ c → bit (p / 256) (7 - c) ≡ bit p (15 - d % 16)
upper p c d h e = let z : 8 + (7 - c) ≡ 15 - d % 16 = omega arith in bit_shr p 8 (7 - c) ∙ ap (bit p) z

-- pixel c of the last eight
lower : (p c d : ℕ) → c < 8 → d % 16 ≡ 8 + c → bit (p % 256) (7 - c) ≡ bit p (15 - d % 16)
lower p c d h e = let z : 7 - c ≡ 15 - d % 16 = omega arith in bit_mod 8 p (7 - c) (omega arith) ∙ ap (bit p) z

first_8 : (p : ℕ) {h x : ℕ} → Spread 8 h x → h ≡ p / 256 → FirstOver p 8 x
first_8 p s e =
    record {
      first = λ i l. s.1 i l ∙ ap (λ (z : ℕ). bit z (7 - across 0 i / 8)) e
          ∙ upper p (across 0 i / 8) (across 0 i / 8) (omega arith) (omega arith);
    }

-- .. at the depth that is none of the others
pub first_else : (p : ℕ) {bits h x : ℕ} → Depth bits → (bits ≡ 1 → ⊥) → (bits ≡ 2 → ⊥) → (bits ≡ 4 → ⊥) → Spread 8 h x → h ≡ p / 256
    → FirstOver p bits x
first_else p d a b c s e = rw (depth_8 d a b c) (first_8 p s e)

pub last_8 : (p : ℕ) {l y : ℕ} → Spread 8 l y → l ≡ p % 256 → LastOver p 8 y
last_8 p t e =
    record {
      last = λ i h. t.1 i h ∙ ap (λ (z : ℕ). bit z (7 - across 0 i / 8)) e
          ∙ lower p (across 0 i / 8) (across 0 (64 + i) / 8) (omega arith)
          (ap (λ (m : ℕ). m / 8 % 16) (across_on 4 i) ∙ on (across 0 i) (omega arith));
    }
  where
    on : (a : ℕ) → a < 64 → (64 + a) / 8 % 16 ≡ 8 + a / 8
    on a h = omega arith

-- both halves after one another, where bits is 2 or 4
module _ (bits : ℕ) (inside : (i : ℕ) → i < 8 * bits → across 0 i / bits < 8)
    (next : (i : ℕ) → 8 * bits ≤ i → across 0 i / bits ≡ 8 + across 0 (i - 8 * bits) / bits)
    (p x y : ℕ) {high low : ℕ} (s : Spread bits high x) (t : Spread bits low y) (e : high ≡ p / 256) (f : low ≡ p % 256) where
  both : (i : ℕ) → i < 16 * bits → bit (x + 2 ^ (8 * bits) * y) i ≡ bit p (15 - across 0 i / bits % 16)
  both i h = go (dec_lt i (8 * bits))
    where
      go : Dec (i < 8 * bits) → bit (x + 2 ^ (8 * bits) * y) i ≡ bit p (15 - across 0 i / bits % 16)
      go (yes l) =
          bit_low (8 * bits) x y s.0 i l ∙ s.1 i l ∙ ap (λ (z : ℕ). bit z (7 - across 0 i / bits)) e
          ∙ upper p (across 0 i / bits) (across 0 i / bits) (inside i l) (omega (arith, inside i l))
      go (no l) =
          let m : i - 8 * bits < 8 * bits = omega arith in
          bit_high (8 * bits) x y s.0 i (omega arith) ∙ t.1 (i - 8 * bits) m
          ∙ ap (λ (z : ℕ). bit z (7 - across 0 (i - 8 * bits) / bits)) f
          ∙ lower p (across 0 (i - 8 * bits) / bits) (across 0 i / bits) (inside (i - 8 * bits) m)
          (omega (arith, next i (omega arith), inside (i - 8 * bits) m))

pub first_4 : (p : ℕ) {high low x y : ℕ} → Spread 4 high x → Spread 4 low y → high ≡ p / 256 → low ≡ p % 256
    → FirstOver p 4 (x + y * 4294967296 % 18446744073709551616)
first_4 p {high} {low} {x} {y} s t e f =
    let z : x + y * 4294967296 % 18446744073709551616 ≡ x + 2 ^ (8 * 4) * y = omega (arith, t.0) in
    record { first = λ i h. ap (λ (z : ℕ). bit z i) z ∙ both 4 (λ i l. omega arith) next p x y s t e f i h }
  where
    on : (a : ℕ) → (32 + a) / 4 ≡ 8 + a / 4
    on a = omega arith

    next : (i : ℕ) → 8 * 4 ≤ i → across 0 i / 4 ≡ 8 + across 0 (i - 8 * 4) / 4
    next i h = ap (λ (m : ℕ). m / 4) (across_from 2 i h) ∙ on (across 0 (i - 32))

pub first_2 : (p : ℕ) {high low x y : ℕ} → Spread 2 high x → Spread 2 low y → high ≡ p / 256 → low ≡ p % 256
    → FirstOver p 2 ((x + y * 65536 % 18446744073709551616) * 4294967297)
first_2 p {high} {low} {x} {y} s t e f = record { first = λ i h. ap (λ (z : ℕ). bit z i) whole ∙ go i h (dec_lt i 32) }
  where
    on : (a : ℕ) → (16 + a) / 2 ≡ 8 + a / 2
    on a = omega arith

    next : (i : ℕ) → 8 * 2 ≤ i → across 0 i / 2 ≡ 8 + across 0 (i - 8 * 2) / 2
    next i h = ap (λ (m : ℕ). m / 2) (across_from 1 i h) ∙ on (across 0 (i - 16))

    back : (a : ℕ) → a / 2 % 16 ≡ (32 + a) / 2 % 16
    back a = omega arith

    once : (i : ℕ) → i < 32 → bit (x + 2 ^ (8 * 2) * y) i ≡ bit p (15 - across 0 i / 2 % 16)
    once = both 2 (λ i l. omega arith) next p x y s t e f

    whole : (x + y * 65536 % 18446744073709551616) * 4294967297 ≡ x + 2 ^ (8 * 2) * y + 2 ^ 32 * (x + 2 ^ (8 * 2) * y)
    whole = omega (arith, t.0)

    small : x + 2 ^ (8 * 2) * y < 2 ^ 32
    small = omega (arith, s.0, t.0)

    go : (i : ℕ) → i < 64 → Dec (i < 32)
        → bit (x + 2 ^ (8 * 2) * y + 2 ^ 32 * (x + 2 ^ (8 * 2) * y)) i ≡ bit p (15 - across 0 i / 2 % 16)
    go i h (yes l) = bit_low 32 (x + 2 ^ (8 * 2) * y) (x + 2 ^ (8 * 2) * y) small i l ∙ once i l
    go i h (no l) =
        bit_high 32 (x + 2 ^ (8 * 2) * y) (x + 2 ^ (8 * 2) * y) small i (omega arith) ∙ once (i - 32) (omega arith)
        ∙ ap (λ (c : ℕ). bit p (15 - c)) (back (across 0 (i - 32)) ∙ ap (λ (m : ℕ). m / 2 % 16) (sym (across_from 2 i (omega arith))))

pub first_1 : (p : ℕ) {x : ℕ} → Fourfold p x → FirstOver p 1 x
first_1 p f = record { first = λ i h. f i h ∙ (let q : i % 16 ≡ 15 - across 0 i / 1 % 16 = omega arith in ap (bit p) q) }

-- at each depth
pub ruleset firsts = (first_1, first_2, first_4, first_else)

-- unless a pixel has 8 bits, eight bytes hold the whole pattern
pub last_again : (p : ℕ) {bits r : ℕ} → Depth bits → (bits ≡ 8 → ⊥) → FirstOver p bits r → LastOver p bits r
last_again p {bits} d n f =
    record {
      last = λ i h. f.first i h
          ∙ ap (λ (c : ℕ). bit p (15 - c)) (again (across 0 i) ∙ ap (λ (m : ℕ). m / bits % 16) (sym (across_on 4 i)));
    }
  where
    again : (a : ℕ) → a / bits % 16 ≡ (64 + a) / bits % 16
    again a = depth_elim (λ b. (b ≡ 8 → ⊥) → a / b % 16 ≡ (64 + a) / b % 16) (λ m. omega arith) (λ m. omega arith) (λ m. omega arith)
        (λ m. absurd (m refl)) d n
