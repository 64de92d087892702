-- Laws of numbers and bytes that are read one after the other: those read so far, and what the rest gives.
use Rattle.std.proofs.Common.{◌≡◌, ℕ, zero, suc, ◌+◌, ◌%◌, ◌≤◌, ◌<◌, Bool, List, [], ◌∷◌, ◌++◌, length, get_or, take, drop, set}
use Rattle.std.proofs.Common.{Option, None, Some, option_map, refl, sym, ap, ◌∙◌, arith}
use Rattle.std.proofs.Common.{append-nil, append_assoc, get_or-drop, add-zero, drop_of_length-le}
use Rattle.std.proofs.lemmas.Bool.{eq-eqb, ne_eqb, cond_both}
use Rattle.std.proofs.lemmas.List.{take_more_set, drop_more, drop-drop}
use Rattle.std.specs.List.{slice_split, onto_first}
use Rattle.script_fields.proofs.NumberLaws.{spelled_number_byte}
use Rattle.script_fields.specs.Numbers.{hex_base, spelled_number}
use Rattle.script_fields.specs.Fields.{field, with_number, spelled_bytes, numbers_of, line_numbers}

-- numbers before those that the rest gives
abbrev pub prefixed : List ℕ → Option (List ℕ) → Option (List ℕ)
prefixed values rest = option_map (λ more. values ++ more) rest

-- no number before any
pub prefixed_none : (rest : Option (List ℕ)) → prefixed [] rest ≡ rest
prefixed_none None = refl
prefixed_none (Some more) = refl

-- no number left
pub prefixed_end : (values : List ℕ) (rest : Option (List ℕ)) → rest ≡ Some [] → prefixed values rest ≡ Some values
prefixed_end values rest e = ap (prefixed values) e ∙ ap Some (append-nil values)

-- the next is none, and neither is the whole
pub prefixed_other :
    (values : List ℕ) {rest : Option (List ℕ)} (after : Option (List ℕ)) {n : Option ℕ} →
    rest ≡ with_number n after →
    None ≡ n →
    prefixed values rest ≡ None
prefixed_other values after next e = ap (prefixed values) (next ∙ ap (λ n. with_number n after) (sym e))

-- a number moves to those before
prefixed_number : (values : List ℕ) (n : ℕ) (after : Option (List ℕ)) → prefixed values (with_number (Some n) after) ≡ prefixed (values ++ n ∷ []) after
prefixed_number values n None = refl
prefixed_number values n (Some more) = ap Some (sym (append_assoc values (n ∷ []) more))

-- the next is read, and stands after those before
pub prefixed_next :
    (values : List ℕ) (i v : ℕ) {rest : Option (List ℕ)} (after : Option (List ℕ)) {n : Option ℕ} →
    i < length values →
    rest ≡ with_number n after →
    Some v ≡ n →
    prefixed (take (i + 1) (set values i v)) after ≡ prefixed (take i values) rest
prefixed_next values i v after room next e =
    ap (λ front. prefixed front after) (take_more_set values i v room)
    ∙ sym (ap (prefixed (take i values)) (next ∙ ap (λ n. with_number n after) (sym e)) ∙ prefixed_number (take i values) v after)

-- ## The numbers of a line

module _ (bases : List ℕ) (fields : List (List ℕ)) (n commas : ℕ) (count : suc commas ≡ length fields) where
  -- as many fields as the line is to have
  pub line_numbers_all : commas ≡ n → line_numbers n bases fields ≡ numbers_of bases (drop 1 fields)
  unfolding line_numbers
  line_numbers_all e = rw (eq-eqb (length fields) (suc n) (omega arith))

  -- another number
  pub line_numbers_other : (commas ≡ n → ⊥) → line_numbers n bases fields ≡ None
  unfolding line_numbers
  line_numbers_other e = rw (ne_eqb (length fields) (suc n) (λ q. e (omega arith)))

-- the first field, which is empty where there is none, and what is left
numbers_of_first :
    (b : ℕ) (bases : List ℕ) (fields : List (List ℕ)) →
    numbers_of (b ∷ bases) fields ≡ with_number (spelled_number b (field fields 0)) (numbers_of bases (drop 1 fields))
unfolding numbers_of spelled_number
numbers_of_first b bases [] = refl
numbers_of_first b bases (f ∷ fs) = refl

-- the numbers from number i on
abbrev pub numbers_from : ℕ → List ℕ → List (List ℕ) → Option (List ℕ)
numbers_from i bases fields = numbers_of (drop i bases) (drop (i + 1) fields)

module _ (i : ℕ) (bases : List ℕ) (fields : List (List ℕ)) where
  -- the next field, and what is left
  pub numbers_from_next :
      i < length bases →
      numbers_from i bases fields ≡ with_number (spelled_number (get_or bases i 0) (field fields (i + 1))) (numbers_from (i + 1) bases fields)
  numbers_from_next h =
      ap (λ l. numbers_of l (drop (i + 1) fields)) (drop_more bases i 0 h)
      ∙ numbers_of_first (get_or bases i 0) (drop (i + 1) bases) (drop (i + 1) fields)
      ∙ rw (get_or-drop, drop-drop, add-zero)

  -- no field left
  pub numbers_from_end : length bases ≤ i → numbers_from i bases fields ≡ Some []
  unfolding numbers_of
  numbers_from_end e = rw (drop_of_length-le bases {i = i} e)

-- what the readings of a line's numbers cite
pub ruleset numbers_read = (prefixed_none, prefixed_other, prefixed_end, line_numbers_all, numbers_from_next, numbers_from_end)

-- ## The bytes of a field

with_number_none : (n : Option ℕ) → with_number n None ≡ None
with_number_none None = refl
with_number_none (Some n) = refl

-- an odd number of digits spells none
pub spelled_bytes_odd : (l : List ℕ) → length l % 2 ≡ 1 → spelled_bytes l ≡ None
unfolding spelled_bytes
spelled_bytes_odd [] h = absurd (omega arith)
spelled_bytes_odd (b ∷ []) h = refl
spelled_bytes_odd (b ∷ c ∷ l) h =
    ap (with_number (spelled_number hex_base (b ∷ c ∷ []))) (spelled_bytes_odd l (omega arith))
    ∙ with_number_none (spelled_number hex_base (b ∷ c ∷ []))

-- the next two digits, and what is left
pub spelled_bytes_next :
    (rest digits after : List ℕ) → rest ≡ digits ++ after → length digits ≡ 2
    → spelled_bytes rest ≡ with_number (spelled_number hex_base digits) (spelled_bytes after)
unfolding spelled_bytes
spelled_bytes_next rest (high ∷ low ∷ []) after e two = rw e
spelled_bytes_next rest [] after e two = absurd (omega arith)
spelled_bytes_next rest (b ∷ []) after e two = absurd (omega arith)
spelled_bytes_next rest (b ∷ c ∷ d ∷ l) after e two = absurd (omega arith)

-- no digit is left
pub spelled_bytes_none : (rest : List ℕ) → length rest ≡ 0 → spelled_bytes rest ≡ Some []
unfolding spelled_bytes
spelled_bytes_none [] h = refl
spelled_bytes_none (b ∷ l) h = absurd (omega arith)

-- what the readings of a field's bytes cite
pub ruleset bytes_read = (prefixed_none, prefixed_end, spelled_bytes_odd, spelled_bytes_none, spelled_number_byte)

-- ## A field of a line is no longer than the line

onto_first_length :
    (b most : ℕ) (parts : List (List ℕ)) → ((k : ℕ) → length (get_or parts k []) ≤ most)
    → (k : ℕ) → length (get_or (onto_first b parts) k []) ≤ suc most
onto_first_length b most [] h zero = omega arith
onto_first_length b most [] h (suc k) = omega arith
onto_first_length b most (part ∷ parts) h zero = omega (arith, h 0)
onto_first_length b most (part ∷ parts) h (suc k) = omega (arith, h (suc k))

empty_first_length : (most : ℕ) (parts : List (List ℕ)) → ((k : ℕ) → length (get_or parts k []) ≤ most) → (k : ℕ) → length (get_or ([] ∷ parts) k []) ≤ suc most
empty_first_length most parts h zero = omega arith
empty_first_length most parts h (suc k) = omega (arith, h k)

pub part_length : (p : ℕ → Bool) (l : List ℕ) (k : ℕ) → length (get_or (slice_split p l) k []) ≤ length l
part_length p [] zero = omega arith
part_length p [] (suc k) = omega arith
part_length p (b ∷ l) k =
    cond_both (p b) _ _ (λ parts. length (get_or parts k []) ≤ suc (length l))
    (λ _. empty_first_length (length l) (slice_split p l) (part_length p l) k)
    (λ _. onto_first_length b (length l) (slice_split p l) (part_length p l) k)
