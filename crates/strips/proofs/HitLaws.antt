-- Dots counted: the visible ones of a window, and the 1s of a pattern, which repeats.
use mathlib.Core.Path.{◌≡◌, refl, sym, ap, ap₂, ◌∙◌}
use mathlib.Core.Logic.{inl, inr}
use mathlib.Core.Bool.{Bool, true, false}
use Prim.Native.Nat.{ℕ, zero, suc, ◌+◌, ◌-◌, ◌*◌, ◌/◌, ◌%◌, ◌^◌, ◌≤◌, ◌<◌}
use native.Mathlib.Nat.{add_comm}
use native.Mathlib.Omega.{arith}
use native.Mathlib.Numerals.{add-one}
use lib.Count.{ones, ones_in, ones_cat}
use Rattle.model.specs.Ranges.{listed}
use Rattle.model.specs.Words.{bit, digit}
use Rattle.model.specs.Dots.{Dot, visible, hits}
use Rattle.model.specs.declared.Clip.{Clip}
use Rattle.model.specs.declared.Surface.{Surface}
use Rattle.model.proofs.BitLaws.{digit_le, bit_shr}
use Rattle.raster.proofs.BitLaws.{bit_mod, digit_odd}
use Rattle.raster.proofs.Table.{each}
use Rattle.strips.specs.Strips.{RotatedLeft}
use Rattle.strips.specs.Strokes.{shown, pattern_on}
use Rattle.strips.proofs.BitParts.{bit_beyond}
use Rattle.strips.proofs.WindowLaws.{Window}

-- ## A count in parts

pub shown_add : (on : ℕ → Bool) (m n i : ℕ) → shown on i (m + n) ≡ shown on i m + shown on (i + m) n
unfolding shown
shown_add on zero n i =
    let e : 0 + n ≡ n = omega arith in
    let f : i + 0 ≡ i = omega arith in
    rw (e, f) (let z : shown on i n ≡ 0 + shown on i n = omega arith in z)
shown_add on (suc m) n i =
    let e : suc m + n ≡ suc (m + n) = omega arith in
    let f : i + suc m ≡ suc i + m = omega arith in
    let z : digit (on i) + shown on (suc i) (m + n) ≡ digit (on i) + shown on (suc i) m + shown on (suc i + m) n
    = omega (arith, shown_add on m n (suc i)) in
    rw (e, f) z

pub shown_none : (on : ℕ → Bool) (n i : ℕ) → ((k : ℕ) → i ≤ k → k < i + n → on k ≡ false) → shown on i n ≡ 0
unfolding shown
shown_none on zero i h = refl
shown_none on (suc n) i h =
    let z : 0 + shown on (suc i) n ≡ 0 = omega (arith, shown_none on n (suc i) (λ k a b. h k (omega arith) (omega arith))) in
    rw (h i (omega arith) (omega arith)) z

pub shown_all : (on : ℕ → Bool) (n i : ℕ) → ((k : ℕ) → i ≤ k → k < i + n → on k ≡ true) → shown on i n ≡ n
unfolding shown
shown_all on zero i h = refl
shown_all on (suc n) i h =
    let z : 1 + shown on (suc i) n ≡ suc n = omega (arith, shown_all on n (suc i) (λ k a b. h k (omega arith) (omega arith))) in
    rw (h i (omega arith) (omega arith)) z

pub shown_cong : (on on' : ℕ → Bool) (n i : ℕ) → ((k : ℕ) → i ≤ k → k < i + n → on k ≡ on' k) → shown on i n ≡ shown on' i n
unfolding shown
shown_cong on on' zero i h = refl
shown_cong on on' (suc n) i h =
    ap₂ (λ (x y : ℕ). x + y) (ap digit (h i (omega arith) (omega arith))) (shown_cong on on' n (suc i) (λ k a b. h k (omega arith) (omega arith)))

shift : (on : ℕ → Bool) (i n j : ℕ) → shown on (i + j) n ≡ shown (λ q. on (i + q)) j n
unfolding shown
shift on i zero j = refl
shift on i (suc n) j =
    let e : suc (i + j) ≡ i + suc j = omega arith in
    ap (λ (k : ℕ). digit (on (i + j)) + k) (ap (λ (k : ℕ). shown on k n) e ∙ shift on i n (suc j))

-- counted from 0 on
pub shown_from : (on : ℕ → Bool) (n i : ℕ) → shown on i n ≡ shown (λ q. on (i + q)) 0 n
shown_from on n i = let e : i ≡ i + 0 = omega arith in ap (λ (k : ℕ). shown on k n) e ∙ shift on i n 0

-- one more at the end
pub shown_last : (on : ℕ → Bool) (n i : ℕ) → shown on i (n + 1) ≡ shown on i n + digit (on (i + n))
unfolding shown
shown_last on n i = shown_add on n 1 i ∙ (let z : shown on i n + (digit (on (i + n)) + 0) ≡ shown on i n + digit (on (i + n)) = omega arith in z)

-- from the other end
pub shown_back : (on : ℕ → Bool) (n : ℕ) → shown (λ q. on (n - 1 - q)) 0 n ≡ shown on 0 n
unfolding shown
shown_back on zero = refl
shown_back on (suc n) =
    let e : suc n - 1 - 0 ≡ 0 + n = omega arith in
    ap₂ (λ (x y : ℕ). x + y) (ap (λ (k : ℕ). digit (on k)) e)
    (shown_from (λ q. on (suc n - 1 - q)) n 1
    ∙ shown_cong (λ q. on (suc n - 1 - (1 + q))) (λ q. on (n - 1 - q)) n 0
    (λ k a b. let z : suc n - 1 - (1 + k) ≡ n - 1 - k = omega arith in ap on z)
    ∙ shown_back on n)
    ∙ add_comm (digit (on (0 + n))) (shown on 0 n)
    ∙ sym (shown_last on n 0) ∙ ap (shown on 0) (add-one n)

-- ## Dots

-- how many dots are visible, as a count
pub hits_shown : (u : Surface) (clip : Clip) (f : ℕ → Dot) (n i : ℕ) → hits u clip (listed i n f) ≡ shown (λ k. visible u clip (f k)) i n
unfolding hits listed shown
hits_shown u clip f zero i = refl
hits_shown u clip f (suc n) i = ap (λ (z : ℕ). digit (visible u clip (f i)) + z) (hits_shown u clip f n (suc i))

-- only the dots of the window count
pub window_hits : {u : Surface} {clip : Clip} {f : ℕ → Dot} {i n N : ℕ} → Window u clip f i n N
    → hits u clip (listed 0 N f) ≡ shown (λ k. visible u clip (f k)) i n
window_hits {u} {clip} {f} {i} {n} {N} c =
    let on : ℕ → Bool = λ k. visible u clip (f k) in
    let e : N ≡ i + (n + (N - (i + n))) = omega (arith, c.most) in
    let z : 0 + i ≡ i = omega arith in
    let a : shown on 0 N ≡ shown on 0 i + (shown on i n + shown on (i + n) (N - (i + n)))
    = ap (shown on 0) e ∙ shown_add on i (n + (N - (i + n))) 0 ∙ rw z (ap (λ (k : ℕ). shown on 0 i + k) (shown_add on n (N - (i + n)) i)) in
    hits_shown u clip f N 0
    ∙ (let y : shown on 0 N ≡ shown on i n = omega (
      arith,
      c.most,
      a,
      shown_none on i 0 (λ k p q. c.hidden k (omega (arith, c.most)) (inl (omega arith))),
      shown_none on (N - (i + n)) (i + n) (λ k p q. c.hidden k (omega (arith, c.most)) (inr (omega arith))),
    ) in y)

-- ## A pattern

pub digit_bit : (x k : ℕ) → digit (bit x k) ≡ x / 2 ^ k % 2
unfolding bit
digit_bit x k =
    let e : k + 0 ≡ k = omega arith in
    ap digit (rw e at (sym (bit_shr x k 0))) ∙ digit_odd (x / 2 ^ k % 2) (omega arith)

-- a window one further, where what leaves it comes back
slide : (on : ℕ → Bool) (n i : ℕ) → on (i + suc n) ≡ on i → shown on (suc i) (suc n) ≡ shown on i (suc n)
unfolding shown
slide on n i h =
    let e : suc i + n ≡ i + suc n = omega arith in
    ap (shown on (suc i)) (sym (add-one n)) ∙ shown_last on n (suc i)
    ∙ rw (e, h) (let z : shown on (suc i) n + digit (on i) ≡ digit (on i) + shown on (suc i) n = omega arith in z)

module _ (pattern : ℕ) where
  on_again : (k : ℕ) → pattern_on pattern (k + 16) ≡ pattern_on pattern k
  on_again k = let e : (k + 16) % 16 ≡ k % 16 = omega arith in rw e

  period : (i : ℕ) → shown (pattern_on pattern) i 16 ≡ shown (pattern_on pattern) 0 16
  period zero = refl
  period (suc i) = slide (pattern_on pattern) 15 i (on_again i) ∙ period i

  times : (q i : ℕ) → shown (pattern_on pattern) i (q * 16) ≡ q * shown (pattern_on pattern) 0 16
  unfolding shown
  times zero i = let e : zero * 16 ≡ 0 = omega arith in let f : zero * shown (pattern_on pattern) 0 16 ≡ 0 = omega arith in rw (e, f)
  times (suc q) i =
      let e : suc q * 16 ≡ 16 + q * 16 = omega arith in
      rw e (shown_add (pattern_on pattern) 16 (q * 16) i ∙ ap₂ (λ (x y : ℕ). x + y) (period i) (times q (i + 16))
      ∙ more q (shown (pattern_on pattern) 0 16))
    where
      more : (q w : ℕ) → w + q * w ≡ suc q * w
      more q w = omega arith

  -- whole periods, and the rest
  pub pattern_shown : (i n : ℕ) → n / 16 * shown (pattern_on pattern) 0 16 + shown (pattern_on pattern) i (n % 16) ≡ shown (pattern_on pattern) i n
  pattern_shown i n =
      let e : n ≡ n % 16 + n / 16 * 16 = omega arith in
      sym (ap (shown (pattern_on pattern) i) e ∙ shown_add (pattern_on pattern) (n % 16) (n / 16 * 16) i
      ∙ ap (λ (k : ℕ). shown (pattern_on pattern) i (n % 16) + k) (times (n / 16) (i + n % 16))
      ∙ add_comm (shown (pattern_on pattern) i (n % 16)) (n / 16 * shown (pattern_on pattern) 0 16))

pub shown_le : (on : ℕ → Bool) (n i : ℕ) → shown on i n ≤ n
unfolding shown
shown_le on zero i = omega arith
shown_le on (suc n) i = omega (arith, digit_le (on i), shown_le on n (suc i))

-- ## The 1s of a word

-- by its two bytes
ones_halves : (w : ℕ) → shown (pattern_on (w % 256)) 8 8 + shown (pattern_on (w / 256)) 8 8 ≡ shown (pattern_on w) 0 16
ones_halves w =
    let l : shown (pattern_on (w % 256)) 8 8 ≡ shown (pattern_on w) (0 + 8) 8
    = shown_cong (pattern_on (w % 256)) (pattern_on w) 8 8 (λ k a b. bit_mod 8 w (15 - k % 16) (omega arith)) in
    let h : shown (pattern_on (w / 256)) 8 8 ≡ shown (pattern_on w) 0 8
    = shown_from (pattern_on (w / 256)) 8 8
    ∙ shown_cong (λ q. pattern_on (w / 256) (8 + q)) (pattern_on w) 8 0 (λ k a b.
    let z : 8 + (15 - (8 + k) % 16) ≡ 15 - k % 16 = omega arith in bit_shr w 8 (15 - (8 + k) % 16) ∙ ap (bit w) z) in
    let z : shown (pattern_on (w % 256)) 8 8 + shown (pattern_on (w / 256)) 8 8 ≡ shown (pattern_on w) 0 8 + shown (pattern_on w) (0 + 8) 8
    = omega (arith, l, h) in
    z ∙ sym (shown_add (pattern_on w) 8 8 0)

byte_ones : (x : ℕ) → x < 256 → ones x ≡ shown (pattern_on x) 8 8
unfolding shown bit ones ones_in
byte_ones x h = each 256 ones (λ x. shown (pattern_on x) 8 8) refl x h

-- as the machine counts them
pub word_ones : (w : ℕ) → w < 65536 → ones w ≡ shown (pattern_on w) 0 16
word_ones w h =
    let e : w ≡ w / 256 * 2 ^ 8 + w % 256 = omega arith in
    let l = byte_ones (w % 256) (omega arith) in
    let m = byte_ones (w / 256) (omega arith) in
    ap ones e ∙ ones_cat 8 (w / 256) (w % 256) (omega arith)
    ∙ (let z : ones (w / 256) + ones (w % 256) ≡ shown (pattern_on (w % 256)) 8 8 + shown (pattern_on (w / 256)) 8 8 = omega (arith, l, m) in z)
    ∙ ones_halves w

-- the first n of a rotated pattern, shifted to the low end
pub ones_first : (pattern index w n : ℕ) → w < 65536 → n ≤ 16 → RotatedLeft pattern index w
    → shown (pattern_on (w / 2 ^ (16 - n))) 0 16 ≡ shown (pattern_on pattern) index n
ones_first pattern index w n h l t =
    let e : 16 ≡ (16 - n) + n = omega arith in
    let v : ℕ = w / 2 ^ (16 - n) in
    let a : shown (pattern_on v) 0 (16 - n) ≡ 0
    = shown_none (pattern_on v) (16 - n) 0 (λ k a b. bit_shr w (16 - n) (15 - k % 16) ∙ bit_beyond 16 w (16 - n + (15 - k % 16)) h (omega arith)) in
    let b : shown (pattern_on v) (0 + (16 - n)) n ≡ shown (pattern_on pattern) index n
    = shown_from (pattern_on v) n (0 + (16 - n))
    ∙ shown_cong (λ q. pattern_on v (0 + (16 - n) + q)) (λ q. pattern_on pattern (index + q)) n 0 (λ k a b.
    let z : 16 - n + (15 - (0 + (16 - n) + k) % 16) ≡ 15 - k % 16 = omega arith in
    let y : (k + index) % 16 ≡ (index + k) % 16 = omega arith in
    bit_shr w (16 - n) (15 - (0 + (16 - n) + k) % 16) ∙ ap (bit w) z ∙ t k ∙ ap (λ (i : ℕ). bit pattern (15 - i)) y)
    ∙ sym (shown_from (pattern_on pattern) n index) in
    ap (shown (pattern_on v) 0) e ∙ shown_add (pattern_on v) (16 - n) n 0
    ∙ (let z : shown (pattern_on v) 0 (16 - n) + shown (pattern_on v) (0 + (16 - n)) n ≡ shown (pattern_on pattern) index n = omega (arith, a, b) in z)
