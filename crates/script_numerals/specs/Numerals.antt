-- Numbers as text, and text written to a buffer (01, "The script program").
use Rattle.std.specs.Prelude.{ℕ, zero, suc, ◌/◌, ◌%◌, ◌≤◌, ◌≡◌, cond, List, [], ◌∷◌, ◌++◌, ltb, length, take}
use Rattle.std.specs.Prelude.{ℤ, pos, negsuc}
use Rattle.io.specs.Digits.{hex_digit_ascii}
use Rattle.script_fields.specs.Fields.{comma}

-- a number's digits in a base, the first of them no 0 unless it is the only one; of a number with at most
-- k + 1 of them
unfoldable pub numeral : ℕ → ℕ → ℕ → List ℕ
numeral base zero n = hex_digit_ascii n ∷ []
numeral base (suc k) n =
    cond (ltb n base) (hex_digit_ascii n ∷ []) (numeral base k (n / base) ++ (hex_digit_ascii (n % base) ∷ []))

-- 64 bits have at most twenty decimal digits
abbrev pub decimal_text : ℕ → List ℕ
decimal_text n = numeral 10 19 n

-- "Pointers print in hex"; 32 bits have at most eight hex digits
abbrev pub hex_text : ℕ → List ℕ
hex_text n = numeral 16 7 n

abbrev pub minus : ℕ
minus = 45

abbrev pub signed_text : ℤ → List ℕ
signed_text (pos n) = decimal_text n
signed_text (negsuc n) = minus ∷ decimal_text (suc n)

-- each value after a comma
unfoldable pub comma_separated : List (List ℕ) → List ℕ
comma_separated [] = []
comma_separated (t ∷ ts) = comma ∷ (t ++ comma_separated ts)

-- ## Text written to a buffer

-- Text was written after the first `at` bytes of a buffer, which are kept, up to `end`. What found no room is
-- left out.
pub record Wrote (first : List ℕ) (at : ℕ) (text : List ℕ) (last : List ℕ) (end : ℕ) : Type 0 where
  pub kept : length last ≡ length first
  pub fits : end ≤ length first
  pub bytes : take end last ≡ take (length first) (take at first ++ text)
