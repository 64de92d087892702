-- The number that a field spells: at most 32 bits, digits in either case, leading zeros fine.
use Rattle.std.specs.Prelude.{ℕ, ◌+◌, ◌-◌, ◌*◌, Bool, cond, ◌&&◌, List, [], ◌∷◌, ltb, leb}
use Rattle.std.specs.Prelude.{Option, None, Some}

-- the base of numbers; "hex addresses and bytes"
abbrev pub decimal_base : ℕ
decimal_base = 10

abbrev pub hex_base : ℕ
hex_base = 16

-- whether a byte is one from the first to the last
abbrev pub in_range : ℕ → ℕ → ℕ → Bool
in_range first last b = leb first b && leb b last

-- the value of a digit: `0` to `9`, `A` to `F`, `a` to `f`; 16, a digit of no base, for any other byte
abbrev pub digit_of : ℕ → ℕ
digit_of b =
    cond (in_range 48 57 b) (b - 48) (cond (in_range 65 70 b) (b - 65 + 10) (cond (in_range 97 102 b) (b - 97 + 10) 16))

-- a number, unless it passes 32 bits
abbrev pub good_number : ℕ → Option ℕ
good_number n = cond (ltb 4294967295 n) None (Some n)

-- a number with one digit more: none if that is no digit of the base
unfoldable pub longer : ℕ → ℕ → ℕ → Option ℕ
longer value base d = cond (leb base d) None (good_number (value * base + d))

-- the same by the digit's byte, where there is a number so far
unfoldable pub extended : ℕ → Option ℕ → ℕ → Option ℕ
extended base None b = None
extended base (Some v) b = longer v base (digit_of b)

-- a number with all the digits of a list more
unfoldable pub and_digits : ℕ → List ℕ → Option ℕ → Option ℕ
and_digits base [] n = n
and_digits base (b ∷ l) n = and_digits base l (extended base n b)

-- the number that a field spells; no digit at all spells none
unfoldable pub spelled_number : ℕ → List ℕ → Option ℕ
spelled_number base [] = None
spelled_number base (b ∷ l) = and_digits base (b ∷ l) (Some 0)
