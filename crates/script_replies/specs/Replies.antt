-- A reply as text (01, "The script program"): "letter, refusal, values".
use Rattle.std.specs.Prelude.{ℕ, List, [], ◌∷◌, ◌++◌}
use Rattle.model.specs.Replies.{Value, number, address, Response, refused_with, accepted_with}
use Rattle.script_fields.specs.Fields.{line_feed}
use Rattle.script_numerals.specs.Numerals.{decimal_text, hex_text, signed_text, comma_separated}

-- "hex addresses"; "Pointers print in hex"
abbrev pub value_text : Value → List ℕ
value_text (number z) = signed_text z
value_text (address a) = hex_text a

abbrev pub value_texts : List Value → List (List ℕ)
value_texts [] = []
value_texts (v ∷ vs) = value_text v ∷ value_texts vs

-- values, each after a comma
abbrev pub values_text : List Value → List ℕ
values_text vs = comma_separated (value_texts vs)

-- "refusal, values"; "a refused call prints two fields"
abbrev pub response_texts : Response → List (List ℕ)
response_texts (refused_with n) = decimal_text n ∷ []
response_texts (accepted_with vs) = decimal_text 0 ∷ value_texts vs

abbrev pub response_text : Response → List ℕ
response_text r = comma_separated (response_texts r)

-- a reply under its line's letter, and a line feed
unfoldable pub reply_text : ℕ → Response → List ℕ
reply_text letter r = letter ∷ (response_text r ++ (line_feed ∷ []))

-- no reply takes more bytes
abbrev pub most_reply : ℕ
most_reply = 160

abbrev pub question_mark : ℕ
question_mark = 63

-- "prints ?"
abbrev pub malformed_text : List ℕ
malformed_text = question_mark ∷ line_feed ∷ []
