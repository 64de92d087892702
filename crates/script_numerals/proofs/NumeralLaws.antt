-- Laws of a number as text.
use mathlib.Core.Path.{◌≡◌, ap, ◌∙◌}
use mathlib.Core.List.{List, [], ◌∷◌, ◌++◌}
use Prim.Native.Nat.{ℕ, zero, suc, ◌-◌, ◌/◌, ◌%◌, ◌^◌, ◌≤◌, ◌<◌}
use native.Mathlib.Nat.{one-mul, pow-zero, pow-suc, pow-le-pow_right, div-lt_iff_lt-mul, le-div_iff_mul-le, mod-eq_of_lt}
use native.Mathlib.Numerals.{unary_clauses}
use native.Mathlib.Omega.{arith}
use borrow.Author.Tests.{lt-ltb, le-ltb}
use Rattle.io.specs.Digits.{hex_digit_ascii, last_digits, IsDigitCount}
use Rattle.model.specs.Coordinates.{coord}
use Rattle.script_numerals.specs.Numerals.{numeral, decimal_text, minus, signed_text}

-- one digit
one_digit : (base m n : ℕ) → n < base → numeral base m n ≡ hex_digit_ascii (n % base) ∷ []
unfolding numeral
one_digit base zero n h = rw (mod-eq_of_lt h)
one_digit base (suc m) n h = rw (lt-ltb n base h, mod-eq_of_lt h)

-- two digits or more
more_digits : (base m n : ℕ) → base ≤ n → numeral base (suc m) n ≡ numeral base m (n / base) ++ (hex_digit_ascii (n % base) ∷ [])
unfolding numeral
more_digits base m n h = rw (le-ltb n base h)

first_power : (base : ℕ) → base ^ 1 ≡ base
first_power base = rw (pow-suc base 0, pow-zero base, one-mul)

-- a number of suc k digits and no fewer is no less than the base
no_less : (base k n : ℕ) → 1 < base → base ^ suc k ≤ n → base ≤ n
no_less base k n h some =
    omega (arith, pow-le-pow_right {n = base} (omega arith) {i = 1} {j = suc k} (omega arith), first_power base)

-- as many digits as the number has
numeral_digits :
    (base k m n : ℕ) → 1 < base → n < base ^ suc m → n < base ^ suc k → (0 < k → base ^ k ≤ n) → numeral base m n ≡ last_digits base (suc k) n
numeral_digits base zero m n h room below least = one_digit base m n (omega (arith, first_power base))
numeral_digits base (suc k) zero n h room below least =
    absurd (omega (arith, no_less base k n h (least (omega arith)), first_power base))
numeral_digits base (suc k) (suc m) n h room below least =
    let some : base ^ suc k ≤ n = least (omega arith) in
    let positive : 0 < base = omega arith in
    more_digits base m n (no_less base k n h some)
    ∙ ap
    (λ (t : List ℕ). t ++ (hex_digit_ascii (n % base) ∷ []))
    (numeral_digits
    base
    k
    m
    (n / base)
    h
    ((div-lt_iff_lt-mul positive).1 (rw pow-suc at room))
    ((div-lt_iff_lt-mul positive).1 (rw pow-suc at below))
    (λ _. (le-div_iff_mul-le positive).1 (rw pow-suc at some)))

-- the fewest digits that hold a number are its numeral
pub numeral_fewest : (base m n k : ℕ) → 1 < base → n < base ^ suc m → IsDigitCount base 1 n k → numeral base m n ≡ last_digits base k n
numeral_fewest base m n zero h room few = absurd (omega (arith, few.0))
numeral_fewest base m n (suc k) h room few = numeral_digits base k m n h room few.1 (λ l. simp unary_clauses at (few.2 (omega arith)))

-- ## A coordinate's text

-- a negative one: a minus, and what its pattern lacks of 65536
pub coordinate_minus : (p : ℕ) → 32768 ≤ p → p < 65536 → signed_text (coord p) ≡ minus ∷ decimal_text (65536 - p)
coordinate_minus p h l =
    let next : suc (65535 - p) ≡ 65536 - p = omega arith in
    rw (le-ltb p 32768 h, next)
