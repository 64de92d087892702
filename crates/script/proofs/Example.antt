-- The example of 01, "The script program", as a theorem about the definitions: what goes in, and what comes out. The pixels of r are 02's:
-- "01's case there reads r,0,1,2,0,0" (A.5).
use mathlib.Core.Path.{◌≡◌, refl}
use mathlib.Core.List.{List, [] as none, ◌∷◌ as ◌then◌}
use Prim.Native.Nat.{ℕ}
use Prim.Native.Char.{code}
use Prim.Native.String.{String, [], ◌∷◌}
use Rattle.model.proofs.Computing.{machine}
use Rattle.script_fields.specs.Numbers.{longer, extended, and_digits, spelled_number}
use Rattle.script_fields.specs.Fields.{lines_of, spelled_bytes, numbers_of, line_numbers}
use Rattle.script_lines.specs.declared.Language.TheVariants as language
use Rattle.script_lines.specs.Lines.{form_in, line_by, line_by_letter, line_of}
use Rattle.script_numerals.specs.Numerals.{numeral, comma_separated}
use Rattle.script_replies.specs.Replies.{reply_text}
use Rattle.script_session.specs.SessionState.{call_made, whole_buffers, after_line}
use Rattle.script.specs.Scripts.{printed, answered}

-- the bytes of a text
abbrev bytes : String → List ℕ
bytes [] = none
bytes (c ∷ s) = code c then bytes s

pub example :
    answered language.Panes (bytes "s,16,2,1\np,0,0,8,2,32\no\nw,0,0,003d010000000100\ng,0,0\nr,0,5\nl,0\nx,0,3,1\ng,1,0\n")
    ≡ bytes "o,0\nw,0\ng,0\nr,0,1,2,0,0\nl,0,2,0,6,0,0,0,0\nx,0,0\ng,1\n"
unfolding machine longer extended and_digits spelled_number lines_of spelled_bytes numbers_of line_numbers form_in line_by line_by_letter line_of numeral
    comma_separated reply_text call_made whole_buffers after_line printed answered
example = refl
