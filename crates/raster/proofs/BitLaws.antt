-- The machine's operations work bit by bit, and a number below 2 ^ n is its n bits. Assumes nothing.
use mathlib.Core.Path.{◌≡◌, refl, sym, ap, ap₂, ◌∙◌}
use mathlib.Core.Bool.{Bool, true, false, cond, ◌&&◌, ◌||◌}
use Prim.Native.Nat.{ℕ, zero, suc, ◌+◌, ◌*◌, ◌/◌, ◌%◌, ◌^◌, ◌<◌, ◌≤◌}
use native.Mathlib.Nat.{not-suc-le-zero, le_of_suc-le-suc, zero-lt-suc, mod-one, mod-lt, mod-eq_of_lt, pow-suc, lt_of_le_of_lt, one-mul}
use native.Mathlib.Numerals.{add-one}
use native.Mathlib.Omega.{arith}
use lib.Bits.{bit_and, bit_or, bit_xor, and_shr, and_mod, or_shr, or_mod, xor_shr, xor_mod, xor_lt, and_le_l}
use lib.Dec.{eqb}
use lib.Pow.{mod-pow-add, shl-shr, shl_exact}
use Rattle.model.specs.Words.{bit, num, digit}
use Rattle.model.proofs.BitLaws.{digit_le, bit_num, num_cong, bit_shr}
use Rattle.raster.specs.Operations.{muxed, bit_field}

-- ## A number of n bits

pub digit_odd : (x : ℕ) → x < 2 → digit (eqb x 1) ≡ x
digit_odd zero h = refl
digit_odd (suc zero) h = refl
digit_odd (suc (suc x)) h = absurd (not-suc-le-zero (le_of_suc-le-suc (le_of_suc-le-suc h)))

-- the n low bits of x
pub num_bit : (n x : ℕ) → num n (bit x) ≡ x % 2 ^ n
unfolding bit num
num_bit zero x = sym (mod-one x)
num_bit (suc n) x =
    ap₂ (λ (p q : ℕ). p * 2 + q) (num_bit n (x / 2)) (digit_odd (x % 2) (mod-lt x (zero-lt-suc 1)))
    ∙ sym (mod-pow-add x n 1) ∙ ap (λ (k : ℕ). x % 2 ^ k) (add-one n)

pub num_lt : (n : ℕ) (f : ℕ → Bool) → num n f < 2 ^ n
unfolding num
num_lt zero f = zero-lt-suc 0
num_lt (suc n) f = omega (arith, num_lt n (λ i. f (suc i)), digit_le (f 0), pow-suc 2 n)

-- a number below 2 ^ n is its n bits
pub num_self : (n : ℕ) {x : ℕ} → x < 2 ^ n → num n (bit x) ≡ x
num_self n {x} h = num_bit n x ∙ mod-eq_of_lt h

-- 0 has no bits
pub bit_zero : (i : ℕ) → bit 0 i ≡ false
unfolding bit
bit_zero zero = refl
bit_zero (suc i) = bit_zero i

-- ## Shifts

-- the b bits of x from k on
pub field_is : (x k b : ℕ) → bit_field x k b ≡ x / 2 ^ k % 2 ^ b
unfolding bit_field
field_is x k b = num_cong b _ _ (λ i h. sym (bit_shr x k i)) ∙ num_bit b (x / 2 ^ k)

-- .. as the code computes them
pub field_of_is : (x k b : ℕ) → b ≤ 8 → x / 2 ^ k % (1 * 2 ^ b % 4294967296) ≡ bit_field x k b
field_of_is x k b h =
    ap (λ (n : ℕ). x / 2 ^ k % n) (shl_exact {a = 1} 1 b 32 (omega arith) (omega arith) ∙ one-mul (2 ^ b)) ∙ sym (field_is x k b)

pub field_bit : (x k b i : ℕ) → i < b → bit (bit_field x k b) i ≡ bit x (k + i)
unfolding bit_field
field_bit x k b i h = bit_num b (λ i. bit x (k + i)) i h

pub bit_mod : (n x i : ℕ) → i < n → bit (x % 2 ^ n) i ≡ bit x i
bit_mod n x i h = ap (λ (z : ℕ). bit z i) (sym (num_bit n x)) ∙ bit_num n (bit x) i h

pub bit_shl : (x k i : ℕ) → bit (x * 2 ^ k) (k + i) ≡ bit x i
bit_shl x k i = sym (bit_shr (x * 2 ^ k) k i) ∙ ap (λ (z : ℕ). bit z i) (shl-shr x k)

-- ## An operation that works digit by digit works bit by bit

odd : ℕ → Bool
odd x = eqb (x % 2) 1

bitwise_bit : (op : ℕ → ℕ → ℕ) (o : Bool → Bool → Bool) → ((a b : ℕ) → op a b / 2 ≡ op (a / 2) (b / 2))
    → ((a b : ℕ) → odd (op a b) ≡ o (odd a) (odd b)) → (i a b : ℕ) → bit (op a b) i ≡ o (bit a i) (bit b i)
unfolding bit odd
bitwise_bit op o half low zero a b = low a b
bitwise_bit op o half low (suc i) a b = ap (λ (x : ℕ). bit x i) (half a b) ∙ bitwise_bit op o half low i (a / 2) (b / 2)

abbrev pub differs : Bool → Bool → Bool
differs false b = b
differs true false = true
differs true true = false

and_digit : (x y : ℕ) → x < 2 → y < 2 → eqb (bit_and x y) 1 ≡ (eqb x 1 && eqb y 1)
and_digit zero y hx hy = refl
and_digit (suc zero) zero hx hy = refl
and_digit (suc zero) (suc zero) hx hy = refl
and_digit (suc zero) (suc (suc y)) hx hy = absurd (not-suc-le-zero (le_of_suc-le-suc (le_of_suc-le-suc hy)))
and_digit (suc (suc x)) y hx hy = absurd (not-suc-le-zero (le_of_suc-le-suc (le_of_suc-le-suc hx)))

or_digit : (x y : ℕ) → x < 2 → y < 2 → eqb (bit_or x y) 1 ≡ (eqb x 1 || eqb y 1)
or_digit zero zero hx hy = refl
or_digit zero (suc zero) hx hy = refl
or_digit (suc zero) zero hx hy = refl
or_digit (suc zero) (suc zero) hx hy = refl
or_digit x (suc (suc y)) hx hy = absurd (not-suc-le-zero (le_of_suc-le-suc (le_of_suc-le-suc hy)))
or_digit (suc (suc x)) y hx hy = absurd (not-suc-le-zero (le_of_suc-le-suc (le_of_suc-le-suc hx)))

xor_digit : (x y : ℕ) → x < 2 → y < 2 → eqb (bit_xor x y) 1 ≡ differs (eqb x 1) (eqb y 1)
xor_digit zero y hx hy = refl
xor_digit (suc zero) zero hx hy = refl
xor_digit (suc zero) (suc zero) hx hy = refl
xor_digit (suc zero) (suc (suc y)) hx hy = absurd (not-suc-le-zero (le_of_suc-le-suc (le_of_suc-le-suc hy)))
xor_digit (suc (suc x)) y hx hy = absurd (not-suc-le-zero (le_of_suc-le-suc (le_of_suc-le-suc hx)))

mod_2 : (x : ℕ) → x % 2 < 2
mod_2 x = mod-lt x (zero-lt-suc 1)

pub bit_and_lem : (i a b : ℕ) → bit (bit_and a b) i ≡ (bit a i && bit b i)
unfolding odd
bit_and_lem =
    bitwise_bit bit_and (λ x y. x && y) (λ a b. and_shr a b 1)
    (λ a b. ap (λ (x : ℕ). eqb x 1) (and_mod a b 1) ∙ and_digit (a % 2) (b % 2) (mod_2 a) (mod_2 b))

pub bit_or_lem : (i a b : ℕ) → bit (bit_or a b) i ≡ (bit a i || bit b i)
unfolding odd
bit_or_lem =
    bitwise_bit bit_or (λ x y. x || y) (λ a b. or_shr a b 1)
    (λ a b. ap (λ (x : ℕ). eqb x 1) (or_mod a b 1) ∙ or_digit (a % 2) (b % 2) (mod_2 a) (mod_2 b))

pub bit_xor_lem : (i a b : ℕ) → bit (bit_xor a b) i ≡ differs (bit a i) (bit b i)
unfolding odd
bit_xor_lem =
    bitwise_bit bit_xor differs (λ a b. xor_shr a b 1)
    (λ a b. ap (λ (x : ℕ). eqb x 1) (xor_mod a b 1) ∙ xor_digit (a % 2) (b % 2) (mod_2 a) (mod_2 b))

-- ## x ^ ((x ^ y) & m) is y where m is 1, else x

pub mux_bit : (m x y : Bool) → differs x (differs x y && m) ≡ cond m y x
mux_bit true true true = refl
mux_bit true true false = refl
mux_bit true false true = refl
mux_bit true false false = refl
mux_bit false true true = refl
mux_bit false true false = refl
mux_bit false false true = refl
mux_bit false false false = refl

pub muxed_is : (m : ℕ) {x y : ℕ} → x < 2 ^ 8 → y < 2 ^ 8 → bit_xor x (bit_and (bit_xor x y) m) ≡ muxed m x y
unfolding muxed
muxed_is m {x} {y} hx hy =
    sym (num_self 8 (xor_lt 8 x (bit_and (bit_xor x y) m) hx (lt_of_le_of_lt (and_le_l (bit_xor x y) m) (xor_lt 8 x y hx hy))))
    ∙ num_cong 8 _ _
    (λ i l. bit_xor_lem i x (bit_and (bit_xor x y) m)
    ∙ ap (differs (bit x i)) (bit_and_lem i (bit_xor x y) m ∙ ap (λ (z : Bool). z && bit m i) (bit_xor_lem i x y))
    ∙ mux_bit (bit m i) (bit x i) (bit y i))

pub muxed_bit : (m x y i : ℕ) → i < 8 → bit (muxed m x y) i ≡ cond (bit m i) (bit y i) (bit x i)
unfolding muxed
muxed_bit m x y i h = bit_num 8 (λ i. cond (bit m i) (bit y i) (bit x i)) i h
