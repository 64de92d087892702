-- A script's lines and their fields, and the bytes and numbers that fields spell (01, "The script program").
use Rattle.std.specs.Prelude.{ℕ, suc, cond, List, [], ◌∷◌, eqb, ◌==◌, length, get_or, drop, Option, None, Some}
use Rattle.std.specs.List.{slice_split, onto_first}
use Rattle.script_fields.specs.Numbers.{hex_base, spelled_number}

-- ## A text cut at a separator

abbrev pub line_feed : ℕ
line_feed = 10

abbrev pub comma : ℕ
comma = 44

-- "reads lines": each ends in a line feed, or where the script ends
unfoldable pub lines_of : List ℕ → List (List ℕ)
lines_of [] = []
lines_of (b ∷ l) = cond (b == line_feed) ([] ∷ lines_of l) (onto_first b (lines_of l))

-- a line's fields stand between commas; an empty line has one, which is empty
abbrev pub fields_of : List ℕ → List (List ℕ)
fields_of = slice_split (λ b. b == comma)

-- field k, the letter being field 0
abbrev pub field : List (List ℕ) → ℕ → List ℕ
field fields k = get_or fields k []

-- ## Limits

-- "Limits: script 8,192 bytes"
abbrev pub most_script : ℕ
most_script = 8192

-- no field of a script spells more bytes, of two digits each
abbrev pub most_bytes : ℕ
most_bytes = 4096

-- ## Numbers and bytes

-- a number before others; none if it is none
abbrev pub with_number : Option ℕ → Option (List ℕ) → Option (List ℕ)
with_number None r = None
with_number (Some n) None = None
with_number (Some n) (Some ns) = Some (n ∷ ns)

-- the bytes that a field spells, two hex digits each; none for any other text
unfoldable pub spelled_bytes : List ℕ → Option (List ℕ)
spelled_bytes [] = Some []
spelled_bytes (high ∷ []) = None
spelled_bytes (high ∷ low ∷ l) = with_number (spelled_number hex_base (high ∷ low ∷ [])) (spelled_bytes l)

-- the numbers that the first fields spell, each in its base; none if one of them spells none
unfoldable pub numbers_of : List ℕ → List (List ℕ) → Option (List ℕ)
numbers_of [] fs = Some []
numbers_of (b ∷ bs) [] = None
numbers_of (b ∷ bs) (f ∷ fs) = with_number (spelled_number b f) (numbers_of bs fs)

-- those of a line of n fields after its letter: "A malformed line" has another number of them
unfoldable pub line_numbers : ℕ → List ℕ → List (List ℕ) → Option (List ℕ)
line_numbers n bases fields = cond (eqb (length fields) (suc n)) (numbers_of bases (drop 1 fields)) None
