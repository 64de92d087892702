-- Tests and lists over the numbers below a bound.
use Rattle.std.specs.Prelude.{ℕ, zero, suc, Bool, false, cond, ◌||◌, List, [], ◌∷◌, ◌++◌, eqb, ltb}

-- some number below n passes the test
unfoldable pub any_below : ℕ → (ℕ → Bool) → Bool
any_below zero f = false
any_below (suc n) f = f n || any_below n f

-- f at i, i + 1, .. : n values in all
unfoldable pub listed : {A : Type 0} → ℕ → ℕ → (ℕ → A) → List A
listed i zero f = []
listed i (suc n) f = f i ∷ listed (suc i) n f

-- the lists f at i, i + 1, .. , n of them, one after the other
unfoldable pub joined : {A : Type 0} → ℕ → ℕ → (ℕ → List A) → List A
joined i zero f = []
joined i (suc n) f = f i ++ joined (suc i) n f

-- n is below lo or above hi
abbrev pub out_of : ℕ → ℕ → ℕ → Bool
out_of lo hi n = ltb n lo || ltb hi n

-- a refusal's or fault's number where there is one, else what follows; 0 is none
abbrev pub or_else : ℕ → ℕ → ℕ
or_else n rest = cond (eqb n 0) rest n
