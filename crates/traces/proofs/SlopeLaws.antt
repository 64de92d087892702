-- The minor offset of a line's pixels: from one pixel to the next, at most the smaller magnitude, and the first pixel that has a given one.
use Rattle.std.proofs.Common.{◌≡◌, ℕ, zero, suc, ◌+◌, ◌-◌, ◌*◌, ◌/◌, ◌<◌, ◌≤◌, max, sym, ◌∙◌, mul-le-mul_right, mod-lt, div-lt_iff_lt-mul, div-add-mod', arith}
use native.Mathlib.Nat.{div-zero}
use lib.Arith.{digits_div, digits_mod}
use Rattle.std.specs.Int.{div_ceil}
use Rattle.std.proofs.lemmas.Grind.{div_ceil_times}
use Rattle.model.specs.Lines.{minor_at}
use Rattle.traces.specs.declared.slopes.Axes.{Axes}
use Rattle.traces.specs.Slopes.{Sloped, minor_of, rest_of, Reaches}

-- ## A pixel's offset

-- j spans and a rest below the span make 2 i m + n: then j is pixel i's minor offset
pub minor_at_rest : (n m i j e : ℕ) → m ≤ n → e < max 1 (2 * n) → j * max 1 (2 * n) + e ≡ 2 * i * m + n → j ≡ minor_at n m i
minor_at_rest zero zero i j e h g s = let z : j ≡ 0 = omega arith in z ∙ sym (div-zero (2 * i * 0 + 0))
minor_at_rest zero (suc m) i j e h g s = absurd (let n : ⊥ = omega arith in n)
minor_at_rest (suc n) m i j e h g s =
    let w : max 1 (2 * suc n) ≡ 2 * suc n = omega arith in
    rw (← (rw w at s)) (sym (digits_div j (rw w at g)))

-- ## The next pixel

module _ (a : Axes) (s : Sloped a) (i : ℕ) (some : 0 < a.larger) where
  abbrev n : ℕ
  n = a.larger

  abbrev m : ℕ
  m = a.smaller

  now : minor_of a i * (2 * n) + rest_of a i ≡ 2 * i * m + n
  now = div-add-mod' (2 * i * m + n) (2 * n)

  pub rest_below : rest_of a i < 2 * n
  rest_below = mod-lt (2 * i * m + n) (omega arith)

  more : 2 * (i + 1) * m + n ≡ 2 * i * m + n + 2 * m
  more = omega arith

  module _ (low : rest_of a i < 2 * n - 2 * m) where
    same : 2 * (i + 1) * m + n ≡ minor_of a i * (2 * n) + (rest_of a i + 2 * m)
    same = omega (arith, now, more)

    pub straight_at : minor_of a (i + 1) ≡ minor_of a i
    straight_at = rw same (digits_div (minor_of a i) (let l : rest_of a i + 2 * m < 2 * n = omega arith in l))

    pub straight_rest : rest_of a (i + 1) ≡ rest_of a i + 2 * m
    straight_rest = rw same (digits_mod (minor_of a i) (let l : rest_of a i + 2 * m < 2 * n = omega arith in l))

  module _ (high : 2 * n - 2 * m ≤ rest_of a i) where
    carried : 2 * (i + 1) * m + n ≡ (minor_of a i + 1) * (2 * n) + (rest_of a i - (2 * n - 2 * m))
    carried =
        let e : (minor_of a i + 1) * (2 * n) ≡ minor_of a i * (2 * n) + 2 * n = omega arith in
        omega (arith, now, more, s.order)

    left_below : rest_of a i - (2 * n - 2 * m) < 2 * n
    left_below = omega (arith, rest_below)

    pub diagonal_at : minor_of a (i + 1) ≡ minor_of a i + 1
    diagonal_at = rw carried (digits_div (minor_of a i + 1) left_below)

    pub diagonal_rest : rest_of a (i + 1) ≡ rest_of a i - (2 * n - 2 * m)
    diagonal_rest = rw carried (digits_mod (minor_of a i + 1) left_below)

-- ## At most the smaller magnitude

most : (n m i : ℕ) → m ≤ n → i ≤ n → minor_at n m i ≤ m
most zero m i h k = rw (div-zero (2 * i * m + 0)) (omega arith)
most (suc n) m i h k =
    let p : 2 * i * m ≤ 2 * suc n * m = mul-le-mul_right m (omega arith) in
    let q : (m + 1) * (2 * suc n) ≡ 2 * suc n * m + 2 * suc n = omega arith in
    let l : (2 * i * m + suc n) / (2 * suc n) < m + 1 = (div-lt_iff_lt-mul (let z : 0 < 2 * suc n = omega arith in z)).1 (omega arith) in
    omega arith

pub minor_most : (a : Axes) → Sloped a → (i : ℕ) → i ≤ a.larger → minor_of a i ≤ a.smaller
minor_most a s i h = most a.larger a.smaller i s.order h

-- ## The first pixel that has an offset

pub reaches_ceil : (a : Axes) → Sloped a → (j r : ℕ) → 0 < j → j ≤ a.smaller → r ≡ div_ceil (2 * a.larger * j - a.larger) (2 * a.smaller)
    → Reaches a j r
reaches_ceil a s j r some few e =
    let b = rw (← e) at (div_ceil_times (2 * a.larger * j - a.larger) (2 * a.smaller) (omega arith)) in
    record { from = λ i l h. grind (arith, b); below = λ i l h. grind (arith, b) }
