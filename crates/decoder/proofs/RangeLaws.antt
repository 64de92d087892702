-- A rule that is computed at each of n numbers from a on holds of every number among them.
use Prim.Native.Nat.{ℕ, zero, suc, ◌+◌, ◌-◌, ◌≤◌, ◌<◌}
use native.Mathlib.Omega.{arith}
use native.Mathlib.Nat.{add-zero, add-suc, suc-add, le_of_suc-le-suc, not-suc-le-zero}
use mathlib.Core.Path.{◌≡◌, ◌∙◌, subst, sym}
use mathlib.Core.Bool.{Bool, true, false, ◌&&◌}
use lib.Dec.{T}

-- P holds of each of n numbers from a on
abbrev pub All : (ℕ → Type 0) → ℕ → ℕ → Type 0
All P a zero = Unit {0}
All P a (suc n) = P a × All P (suc a) n

at : (P : ℕ → Type 0) (n a : ℕ) → All P a n → (j : ℕ) → j < n → P (a + j)
at P zero a all j h = absurd (not-suc-le-zero h)
at P (suc n) a all zero h = subst P (sym (add-zero a)) all.0
at P (suc n) a all (suc j) h =
    subst P (suc-add a j ∙ sym (add-suc a j)) (at P n (suc a) all.1 j (le_of_suc-le-suc h))

pub range : (P : ℕ → Type 0) (a n : ℕ) → All P a n → (k : ℕ) → a ≤ k → k < a + n → P k
range P a n all k h l =
    let e : a + (k - a) ≡ k = omega arith in
    subst P e (at P n a all (k - a) (omega arith))

-- ## The same for a test

abbrev pub allb : (ℕ → Bool) → ℕ → ℕ → Bool
allb test a zero = true
allb test a (suc n) = test a && allb test (suc a) n

and_left : (a b : Bool) → T (a && b) → T a
and_left true b t = tt
and_left false b t = t

and_right : (a b : Bool) → T (a && b) → T b
and_right true b t = t
and_right false b t = absurd t

all_allb : (test : ℕ → Bool) (n a : ℕ) → T (allb test a n) → All (λ (k : ℕ). T (test k)) a n
all_allb test zero a t = tt
all_allb test (suc n) a t = (and_left (test a) _ t, all_allb test n (suc a) (and_right (test a) _ t))

pub range_allb : (test : ℕ → Bool) (a n : ℕ) → T (allb test a n) → (k : ℕ) → a ≤ k → k < a + n → T (test k)
range_allb test a n t = range (λ (k : ℕ). T (test k)) a n (all_allb test n a t)
