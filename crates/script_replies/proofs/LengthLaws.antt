-- How long texts are, at the most.
use mathlib.Core.List.{List, [], ◌∷◌}
use Prim.Native.Nat.{ℕ, zero, suc, ◌+◌, ◌*◌, ◌/◌, ◌%◌, ◌≤◌}
use native.Mathlib.Omega.{arith}
use lib.Dec.{ltb}
use lib.IntN.{ℤ, pos, negsuc}
use lib.ListN.{length, length-append}
use Rattle.io.specs.Digits.{hex_digit_ascii}
use Rattle.model.proofs.Decisions.{cond_ind}
use Rattle.model.specs.Replies.{Value, number, address, Response, refused_with, accepted_with}
use Rattle.script_fields.specs.Fields.{line_feed}
use Rattle.script_numerals.specs.Numerals.{numeral, decimal_text, hex_text, signed_text, comma_separated}
use Rattle.script_replies.specs.Replies.{value_text, value_texts, values_text, response_text, reply_text, most_reply}

-- a number has no more digits than there is room for
numeral_length : (base k n : ℕ) → length (numeral base k n) ≤ suc k
unfolding numeral
numeral_length base zero n = omega arith
numeral_length base (suc k) n =
    cond_ind (λ (l : List ℕ). length l ≤ suc (suc k)) (ltb n base) _ _ (λ e. omega arith)
    (λ e. omega (arith, length-append (numeral base k (n / base)) (hex_digit_ascii (n % base) ∷ []), numeral_length base k (n / base)))

decimal_length : (n : ℕ) → length (decimal_text n) ≤ 20
decimal_length n = numeral_length 10 19 n

hex_length : (n : ℕ) → length (hex_text n) ≤ 8
hex_length n = numeral_length 16 7 n

signed_length : (z : ℤ) → length (signed_text z) ≤ 21
signed_length (pos n) = omega (arith, decimal_length n)
signed_length (negsuc n) = omega (arith, decimal_length (suc n))

-- a value with its comma, before others
comma_separated_length :
    (t : List ℕ) (ts : List (List ℕ)) (m n : ℕ) →
    length t ≤ m →
    length (comma_separated ts) ≤ n →
    length (comma_separated (t ∷ ts)) ≤ suc (m + n)
unfolding comma_separated
comma_separated_length t ts m n h k = omega (arith, length-append t (comma_separated ts))

-- a value takes at most 22 bytes with its comma
value_length : (v : Value) → length (value_text v) ≤ 21
value_length (number z) = signed_length z
value_length (address a) = omega (arith, hex_length a)

values_length : (vs : List Value) → length (values_text vs) ≤ 22 * length vs
unfolding comma_separated
values_length [] = omega arith
values_length (v ∷ vs) =
    omega (arith, comma_separated_length (value_text v) (value_texts vs) 21 (22 * length vs) (value_length v) (values_length vs))

-- a refusal, or acceptance with at most seven values
abbrev pub Short : Response → Type 0
Short (refused_with n) = Unit {0}
Short (accepted_with vs) = length vs ≤ 7

response_length : (r : Response) → Short r → length (response_text r) ≤ 156
unfolding comma_separated numeral
response_length (refused_with n) h = omega (arith, comma_separated_length (decimal_text n) [] 20 0 (decimal_length n) (omega arith))
response_length (accepted_with vs) h =
    omega (arith, comma_separated_length (decimal_text 0) (value_texts vs) 1 (22 * length vs) (omega arith) (values_length vs))

-- such a reply, with its letter and its line feed
pub reply_length : (letter : ℕ) (r : Response) → Short r → length (reply_text letter r) ≤ most_reply
unfolding reply_text
reply_length letter r h = omega (arith, length-append (response_text r) (line_feed ∷ []), response_length r h)
