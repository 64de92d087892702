-- What a line of a script says (01, "The script program").
use Rattle.std.specs.Prelude.{ℕ, Bool, true, cond, not, ◌||◌, List, [], ◌∷◌, eqb, get_or, take, Option, None, Some}
use Rattle.model.specs.declared.Geometry.{Geometry}
use Rattle.model.specs.Calls.{Request, on}
use Rattle.model.specs.Calls as calls
use Rattle.script_fields.specs.Numbers.{decimal_base, hex_base}
use Rattle.script_fields.specs.Fields.{fields_of, field, spelled_bytes, line_numbers}
use Rattle.script_lines.specs.declared.Language.{Language}
use Rattle.script_lines.specs.declared.Language.TheVariants as language
use Rattle.script_lines.specs.declared.Call as declared_call
use Rattle.script_lines.specs.declared.Call.TheVariants as call
use Rattle.script_lines.specs.declared.Line as declared
use Rattle.script_lines.specs.declared.Line.TheVariants as written

pub data Line : Type 0 where
  sizing : Geometry → Line
  adding : (left top width height len : ℕ) → Line
  opening : Line
  -- the line's letter, and the call on a pane
  asking : ℕ → Request → Line
  malformed : Line

-- ## Letters

-- `s`
abbrev pub letter_screen : ℕ
letter_screen = 115

-- `p`
abbrev pub letter_pane : ℕ
letter_pane = 112

-- `o`
abbrev pub letter_open : ℕ
letter_open = 111

-- `w`
abbrev pub letter_put : ℕ
letter_put = 119

-- `g`
abbrev pub letter_start : ℕ
letter_start = 103

-- `r`
abbrev pub letter_run : ℕ
letter_run = 114

-- `l`
abbrev pub letter_look : ℕ
letter_look = 108

-- `x`
abbrev pub letter_pixel : ℕ
letter_pixel = 120

-- `k`, in the language of `calls` alone
abbrev pub letter_peek : ℕ
letter_peek = 107

-- `c`, in the language of `calls` alone
abbrev pub letter_clear : ℕ
letter_clear = 99

-- `j`, in the language of `calls` alone
abbrev pub letter_judge : ℕ
letter_judge = 106

-- `t`, in the language of `calls` alone
abbrev pub letter_switch : ℕ
letter_switch = 116

-- whether a language has a letter, if either has it
abbrev pub has : Language → ℕ → Bool
has language.Panes c =
    not (eqb c letter_peek || (eqb c letter_clear || (eqb c letter_judge || eqb c letter_switch)))
has language.Calls c = true

-- ## Forms

-- The form of a line: how many fields follow its letter, the bases of the numbers that are the first of them,
-- and what the line says, by these numbers (`v 0` is the first) and its fields.
pub record Form : Type 0 where
  pub fields : ℕ
  pub bases : List ℕ
  pub says : (ℕ → ℕ) → List (List ℕ) → Line

abbrev pub form : ℕ → List ℕ → ((ℕ → ℕ) → List (List ℕ) → Line) → Form
form n bases says = record { fields = n; bases = bases; says = says }

-- a line of which some fields are to spell numbers, or one bytes
abbrev pub spelled_line : Option (List ℕ) → (List ℕ → Line) → Line
spelled_line None f = malformed
spelled_line (Some l) f = f l

-- the bases of an address on a pane
abbrev pub pane_and_address : List ℕ
pane_and_address = decimal_base ∷ hex_base ∷ []

-- "s,width,height,depth"
abbrev pub screen_form : Form
screen_form =
    form 3 (decimal_base ∷ decimal_base ∷ decimal_base ∷ [])
    (λ v fs. sizing (record { width = v 0; height = v 1; depth = v 2 }))

-- "p,left,top,width,height,store length"
abbrev pub pane_form : Form
pane_form =
    form 5 (decimal_base ∷ decimal_base ∷ decimal_base ∷ decimal_base ∷ decimal_base ∷ [])
    (λ v fs. adding (v 0) (v 1) (v 2) (v 3) (v 4))

-- "o set-up"
abbrev pub open_form : Form
open_form = form 0 [] (λ v fs. opening)

-- "w put": "Lines from w to x give the pane first, then the call's values", with "hex addresses and bytes"
abbrev pub put_form : Form
put_form =
    form 3 pane_and_address
    (λ v fs. spelled_line (spelled_bytes (field fs 3)) (λ bytes. asking letter_put (on (v 0) (calls.put (v 1) bytes))))

-- "g start", with a hex address
abbrev pub start_form : Form
start_form = form 2 pane_and_address (λ v fs. asking letter_start (on (v 0) (calls.start (v 1))))

-- "r run"
abbrev pub run_form : Form
run_form = form 2 (decimal_base ∷ decimal_base ∷ []) (λ v fs. asking letter_run (on (v 0) (calls.run (v 1))))

-- "l look"
abbrev pub look_form : Form
look_form = form 1 (decimal_base ∷ []) (λ v fs. asking letter_look (on (v 0) calls.look))

-- "x pixel"
abbrev pub pixel_form : Form
pixel_form =
    form 3 (decimal_base ∷ decimal_base ∷ decimal_base ∷ [])
    (λ v fs. asking letter_pixel (on (v 0) (calls.pixel (v 1) (v 2))))

-- peek, in the language of `calls`: `k,pane,address`, with a hex address
abbrev pub peek_form : Form
peek_form = form 2 pane_and_address (λ v fs. asking letter_peek (on (v 0) (calls.peek (v 1))))

-- clear, in the language of `calls`: `c,pane`
abbrev pub clear_form : Form
clear_form = form 1 (decimal_base ∷ []) (λ v fs. asking letter_clear (on (v 0) calls.clear))

-- judge (02, A.2), in the language of `calls`: `j,pane,address`, with a hex address
abbrev pub judge_form : Form
judge_form = form 2 pane_and_address (λ v fs. asking letter_judge (on (v 0) (calls.judge (v 1))))

-- switch (02, A.7), in the language of `calls`: `t,pane,value`
abbrev pub switch_form : Form
switch_form = form 2 (decimal_base ∷ decimal_base ∷ []) (λ v fs. asking letter_switch (on (v 0) (calls.switch (v 1))))

-- the forms, each by its letter
abbrev pub forms : List (ℕ × Form)
forms =
    (letter_screen, screen_form)
    ∷ (letter_pane, pane_form)
    ∷ (letter_open, open_form)
    ∷ (letter_put, put_form)
    ∷ (letter_start, start_form)
    ∷ (letter_run, run_form)
    ∷ (letter_look, look_form)
    ∷ (letter_pixel, pixel_form)
    ∷ (letter_peek, peek_form)
    ∷ (letter_clear, clear_form)
    ∷ (letter_judge, judge_form)
    ∷ (letter_switch, switch_form)
    ∷ []

-- the form of a letter in a table; a line with any other letter is malformed
unfoldable pub form_in : List (ℕ × Form) → ℕ → Form
form_in [] c = form 0 [] (λ v fs. malformed)
form_in (f ∷ fs) c = cond (eqb c f.0) f.1 (form_in fs c)

abbrev pub form_of : ℕ → Form
form_of = form_in forms

-- ## Lines

-- what a form says with a list of numbers
abbrev pub saying : Form → List ℕ → List (List ℕ) → Line
saying f numbers fs = f.says (λ k. get_or numbers k 0) fs

-- a line of a form
unfoldable pub line_by : Form → List (List ℕ) → Line
line_by f fs = spelled_line (line_numbers f.fields f.bases fs) (λ numbers. saying f numbers fs)

-- its first field is the letter alone
unfoldable pub line_by_letter : Language → List ℕ → List (List ℕ) → Line
line_by_letter language [] fs = malformed
line_by_letter language (c ∷ []) fs = cond (has language c) (line_by (form_of c) fs) malformed
line_by_letter language (c ∷ d ∷ l) fs = malformed

unfoldable pub line_of : Language → List ℕ → Line
line_of language l = line_by_letter language (field (fields_of l) 0) (fields_of l)

-- ## The same as the code holds it: the bytes of a put stand at the start of a buffer

abbrev pub call_said : declared_call.Call → List ℕ → calls.Call
call_said (call.Put a n) buffer = calls.put a (take n buffer)
call_said (call.Start a) buffer = calls.start a
call_said (call.Run n) buffer = calls.run n
call_said call.Look buffer = calls.look
call_said (call.Pixel x y) buffer = calls.pixel x y
call_said (call.Peek a) buffer = calls.peek a
call_said call.Clear buffer = calls.clear
call_said (call.Judge a) buffer = calls.judge a
call_said (call.Switch v) buffer = calls.switch v

abbrev pub line_said : Option declared.Line → List ℕ → Line
line_said None buffer = malformed
line_said (Some (written.Screen g)) buffer = sizing g
line_said (Some (written.Pane left top w h len)) buffer = adding left top w h len
line_said (Some written.Open) buffer = opening
line_said (Some (written.Ask letter p c)) buffer = asking letter (on p (call_said c buffer))
