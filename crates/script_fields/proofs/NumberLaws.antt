-- Laws of a number read digit by digit.
use Rattle.std.proofs.Common.{◌≡◌, ℕ, ◌+◌, ◌*◌, ◌<◌, ◌≤◌, List, [], ◌∷◌, length, get_or, drop}
use Rattle.std.proofs.Common.{Option, None, Some, refl, inl, inr, ap, sym, ◌∙◌, arith}
use Rattle.std.proofs.lemmas.List.{at_drop_more, at_drop_all}
use Rattle.std.proofs.lemmas.Option.{none-some, same_Some}
use Rattle.std.proofs.lemmas.Bool.{cases_lt, lt-leb, le-leb, lt-ltb, le-ltb}
use Rattle.script_fields.specs.Numbers.{hex_base, digit_of, good_number, longer, extended, and_digits, spelled_number}

-- a field of no digit
pub spelled_number_none : (base : ℕ) (l : List ℕ) → length l ≡ 0 → spelled_number base l ≡ None
unfolding spelled_number
spelled_number_none base [] h = refl
spelled_number_none base (b ∷ l) h = absurd (omega arith)

-- a field of some
pub spelled_number_some : (base : ℕ) (l : List ℕ) → 0 < length l → spelled_number base l ≡ and_digits base l (Some 0)
unfolding spelled_number
spelled_number_some base [] h = absurd (omega arith)
spelled_number_some base (b ∷ l) h = refl

-- what is no number stays so
pub and_digits_none : (base : ℕ) (l : List ℕ) → and_digits base l None ≡ None
unfolding and_digits extended
and_digits_none base [] = refl
and_digits_none base (b ∷ l) = and_digits_none base l

-- The digits that are left, from i on, taken to the number v.
module _ (base v i : ℕ) (l : List ℕ) where
  -- no digit left
  pub and_digits_end : length l ≤ i → and_digits base (drop i l) (Some v) ≡ Some v
  unfolding and_digits
  and_digits_end h = at_drop_all (λ l. and_digits base l (Some v)) l i h

  module _ (more : i < length l) (d : ℕ) (n : Option ℕ) (is : d ≡ digit_of (get_or l i 0)) (longer_is : n ≡ longer v base d) where
    -- a digit taken
    pub and_digits_next : and_digits base (drop i l) (Some v) ≡ and_digits base (drop (i + 1) l) n
    unfolding and_digits extended
    and_digits_next =
        at_drop_more (λ l. and_digits base l (Some v)) l i 0 more
        ∙ ap (λ d. and_digits base (drop (i + 1) l) (longer v base d)) (sym is)
        ∙ ap (and_digits base (drop (i + 1) l)) (sym longer_is)

  -- that makes no number
  pub and_digits_past :
      i < length l → (d : ℕ) → d ≡ digit_of (get_or l i 0) → None ≡ longer v base d → and_digits base (drop i l) (Some v) ≡ None
  and_digits_past more d h e = and_digits_next more d None h e ∙ and_digits_none base (drop (i + 1) l)

-- what a number read digit by digit cites
pub ruleset digits_taken = (spelled_number_none, spelled_number_some, and_digits_past, and_digits_end, and_digits_next)

-- ## Two hex digits spell a byte

in_32_bits : (m n : ℕ) → good_number m ≡ Some n → m ≡ n
in_32_bits m n e =
    elim (cases_lt 4294967295 m) [
      | inl past ↦ absurd (none-some n (rw (lt-ltb 4294967295 m past) at e))
      | inr fits ↦ same_Some m n (rw (le-ltb 4294967295 m fits) at e)
    ]

-- a number with a digit more
longer_some : (v d n : ℕ) → longer v hex_base d ≡ Some n → n < (v + 1) * hex_base
unfolding longer
longer_some v d n e =
    elim (cases_lt d hex_base) [
      | inl low ↦ (let same = in_32_bits (v * hex_base + d) n (rw (lt-leb hex_base d low) at e) in omega arith)
      | inr past ↦ absurd (none-some n (rw (le-leb hex_base d past) at e))
    ]

-- a hex digit more
extended_small : (m : Option ℕ) (b n most : ℕ) → ((v : ℕ) → m ≡ Some v → v < most) → extended hex_base m b ≡ Some n → n < most * hex_base
unfolding extended
extended_small None b n most h e = absurd (none-some n e)
extended_small (Some v) b n most h e = let below = h v refl in let small = longer_some v (digit_of b) n e in omega arith

-- two of them
pub spelled_number_byte : (digits : List ℕ) (n : ℕ) → length digits ≡ 2 → Some n ≡ spelled_number hex_base digits → n < 256
unfolding spelled_number and_digits
spelled_number_byte (x ∷ y ∷ []) n two e =
    extended_small (extended hex_base (Some 0) x) y n 16
    (λ v. extended_small (Some 0) x v 1 (λ u q. let zero = same_Some 0 u q in omega arith)) (sym e)
spelled_number_byte [] n two e = absurd (omega arith)
spelled_number_byte (x ∷ []) n two e = absurd (omega arith)
spelled_number_byte (x ∷ y ∷ z ∷ l) n two e = absurd (omega arith)
