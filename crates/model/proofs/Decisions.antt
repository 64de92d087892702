-- What a test's outcome says, and a choice by a test.
use mathlib.Core.Path.{◌≡◌, refl, sym, ◌∙◌}
use mathlib.Core.Logic.{◌⊎◌, inl, inr}
use mathlib.Core.Bool.{Bool, true, false, cond, ◌&&◌, ◌||◌}
use Prim.Native.Nat.{ℕ, zero, suc}
use native.Mathlib.Omega.{arith}
use lib.Dec.{T, ltb, eqb}
use borrow.Author.Tests.{eqb-true, eqb-false}
use Rattle.model.specs.Ranges.{or_else}

pub split {ℓ} : {P : Type ℓ} (t : Bool) → (t ≡ true → P) → (t ≡ false → P) → P
split true f g = f refl
split false f g = g refl

pub holds : {t : Bool} → t ≡ true → T t
holds e = rw e tt

-- ## _&&_ and _||_

pub both_true : (a b : Bool) → (a && b) ≡ true → (a ≡ true) × (b ≡ true)
both_true true b e = (refl, e)
both_true false b e = (e, absurd (holds e))

pub both_of : {a b : Bool} → a ≡ true → b ≡ true → (a && b) ≡ true
both_of e f = rw (e, f)

pub either_false : (a b : Bool) → (a || b) ≡ false → (a ≡ false) × (b ≡ false)
either_false true b e = (e, absurd (holds (sym e)))
either_false false b e = (refl, e)

pub either_true : (a b : Bool) → (a || b) ≡ true → (a ≡ true) ⊎ (b ≡ true)
either_true true b e = inl refl
either_true false b e = inr e

pub and_false : (a b : Bool) → b ≡ false → (a && b) ≡ false
and_false true b e = e
and_false false b e = refl

pub and_true : (a b : Bool) → b ≡ true → (a && b) ≡ a
and_true true b e = e
and_true false b e = refl

pub and_left : (a b : Bool) → a ≡ false → (a && b) ≡ false
and_left a b e = rw e

pub or_true : (a b : Bool) → b ≡ true → (a || b) ≡ true
or_true true b e = refl
or_true false b e = e

-- ## cond

pub cond_true {ℓ} : {A : Type ℓ} {t : Bool} (a b : A) → t ≡ true → cond t a b ≡ a
cond_true a b e = rw e

pub cond_false {ℓ} : {A : Type ℓ} {t : Bool} (a b : A) → t ≡ false → cond t a b ≡ b
cond_false a b e = rw e

pub cond_ind {ℓ κ} : {A : Type ℓ} (P : A → Type κ) (t : Bool) (a b : A) → (t ≡ true → P a) → (t ≡ false → P b) → P (cond t a b)
cond_ind P true a b f g = f refl
cond_ind P false a b f g = g refl

pub cond_rel {ℓ κ} : {A : Type ℓ} (R : A → A → Type κ) (t : Bool) (a b a' b' : A) → R a a' → R b b' → R (cond t a b) (cond t a' b')
cond_rel R true a b a' b' f g = f
cond_rel R false a b a' b' f g = g

-- the number of a refusal or fault that a test gives, where there is none; numbers are above 0, which `tt` shows of each
pub cond_none : (t : Bool) (n m : ℕ) → T (ltb 0 n) → cond t n m ≡ 0 → (t ≡ false) × (m ≡ 0)
cond_none true zero m h e = absurd h
cond_none true (suc n) m h e = absurd (omega arith)
cond_none false n m h e = (refl, e)

-- ## The first refusal that applies

pub or_else_none : (n rest : ℕ) → or_else n rest ≡ 0 → (n ≡ 0) × (rest ≡ 0)
or_else_none n rest h = split (eqb n 0)
    (λ e. (eqb-true n 0 e, sym (cond_true rest n e) ∙ h))
    (λ e. absurd (eqb-false n 0 e (sym (cond_false rest n e) ∙ h)))
