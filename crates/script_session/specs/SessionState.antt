-- What a script has said so far, and what a line does to it (01, "The script program").
use Rattle.std.specs.Prelude.{ℕ, ◌+◌, Bool, true, false, cond, not, ◌||◌, ltb, leb}
use Rattle.std.specs.Prelude.{List, ◌++◌, take, drop, set, replicate}
use Rattle.model.specs.declared.Geometry.{Geometry}
use Rattle.model.specs.declared.Row.{Row}
use Rattle.model.specs.declared.Console.{Console}
use Rattle.model.specs.Record.{fresh}
use Rattle.model.specs.Setup.{no_row, screen_bytes}
use Rattle.model.specs.Replies.{Response, refused_with, accepted_with, response}
use Rattle.model.specs.Calls.{State, Answer, exec, set_up}
use Rattle.call_common.specs.Answers.{state}
use Rattle.script_session.specs.declared.Session.{Session}
use Rattle.script_session.specs.declared.LineAnswer.{LineAnswer}
use Rattle.script_session.specs.declared.LineAnswer.TheVariants as answer
use Rattle.script_session.specs.declared.LineStep.{LineStep}
use Rattle.script_lines.specs.Lines.{Line, sizing, adding, opening, asking, malformed, letter_open}

-- the session, with the whole buffers: the screen's rows are the first bytes of one, the stores of the other
pub record SessionState : Type 0 where
  pub session : Session
  pub screen : List ℕ
  pub stores : List ℕ

abbrev pub session_state : Session → List ℕ → List ℕ → SessionState
session_state s screen stores = record { session = s; screen = screen; stores = stores }

-- what a line comes to: a ?, nothing to print, or a reply under the line's letter
pub data LineOutcome : Type 0 where
  question : LineOutcome
  silence : LineOutcome
  replying : ℕ → Response → LineOutcome

-- what a line leaves, and what it comes to
pub record Reaction : Type 0 where
  pub state : SessionState
  pub outcome : LineOutcome

abbrev pub reaction : SessionState → LineOutcome → Reaction
reaction d o = record { state = d; outcome = o }

-- ## The same as the code answers it, the buffers being changed in place

abbrev pub line_step : Session → LineAnswer → LineStep
line_step s a = record { session = s; answer = a }

abbrev pub outcome_of : LineAnswer → LineOutcome
outcome_of answer.Malformed = question
outcome_of answer.Taken = silence
outcome_of (answer.Replied letter r) = replying letter (response r)

abbrev pub reaction_of : LineStep → List ℕ → List ℕ → Reaction
reaction_of r screen stores = reaction (session_state r.session screen stores) (outcome_of r.answer)

-- ## Sessions

-- nothing was said: a console record without rows
abbrev pub new_session : Session
new_session =
    record {
      console = record {
        geometry = record { width = 0; height = 0; depth = 0 };
        count = 0;
        rows = replicate 8 no_row;
        panes = replicate 8 fresh;
      };
      sized = false;
      opened = false;
      screen = 0;
      stores = 0;
    }

abbrev pub with_console : Session → Console → Session
with_console s c = record { console = c; sized = s.sized; opened = s.opened; screen = s.screen; stores = s.stores }

-- an `s` was taken: the geometry, and the bytes that its rows take
abbrev pub with_geometry : Session → Geometry → Session
with_geometry s g =
    record {
      console = record { geometry = g; count = s.console.count; rows = s.console.rows; panes = s.console.panes };
      sized = true;
      opened = s.opened;
      screen = screen_bytes g;
      stores = s.stores;
    }

-- a `p` was taken: the table's next row; "stores in sequence"
abbrev pub with_row : Session → Row → Session
with_row s r =
    record {
      console = record {
        geometry = s.console.geometry;
        count = s.console.count + 1;
        rows = set s.console.rows s.console.count r;
        panes = s.console.panes;
      };
      sized = s.sized;
      opened = s.opened;
      screen = s.screen;
      stores = s.stores + r.len;
    }

abbrev pub next_row : Session → ℕ → ℕ → ℕ → ℕ → ℕ → Row
next_row s left top w h len = record { left = left; top = top; width = w; height = h; start = s.stores; len = len }

-- an `o` was accepted
abbrev pub after_set_up : Session → Response → Session
after_set_up s (accepted_with vs) =
    record { console = s.console; sized = s.sized; opened = true; screen = s.screen; stores = s.stores }
after_set_up s (refused_with n) = s

-- ## Limits

-- "Limits: .. screen 32,768, stores 16,384"
abbrev pub most_screen : ℕ
most_screen = 32768

abbrev pub most_stores : ℕ
most_stores = 16384

-- "a ninth `p`"
abbrev pub most_panes : ℕ
most_panes = 8

-- ## Calls on the bytes in use

-- what a call is lent: the bytes in use
abbrev pub in_use : SessionState → State
in_use d = state d.session.console (take d.session.screen d.screen) (take d.session.stores d.stores)

-- a call was made on the bytes in use: what it left there, and its reply under the line's letter
unfoldable pub call_made : Session → ℕ → Answer → Reaction
call_made s letter a =
    reaction (session_state (with_console s a.state.console) a.state.screen a.state.stores)
    (replying letter a.reply)

-- the first bytes of a buffer replaced
abbrev pub with_start : ℕ → List ℕ → List ℕ → List ℕ
with_start n new buffer = new ++ drop n buffer

-- the same with the whole buffers
unfoldable pub whole_buffers : SessionState → Reaction → Reaction
whole_buffers d m =
    reaction
    (session_state m.state.session (with_start d.session.screen m.state.screen d.screen)
    (with_start d.session.stores m.state.stores d.stores))
    m.outcome

-- ## What a line does

-- "prints ? and does nothing"
abbrev pub question_line : SessionState → Reaction
question_line d = reaction d question

abbrev pub unless : Bool → SessionState → Reaction → Reaction
unless bad d m = cond bad (question_line d) m

-- a line is taken and prints nothing
abbrev pub taken_line : SessionState → Session → Reaction
taken_line d s = reaction (session_state s d.screen d.stores) silence

-- Which lines print ?: "a call before an accepted `o`, or `s`, `p` or `o` after one", and before it:

-- "a second `s`", and "one past a limit"
abbrev pub screen_misplaced : Session → Geometry → Bool
screen_misplaced s g = s.opened || (s.sized || ltb most_screen (screen_bytes g))

-- "a ninth `p`", and "one past a limit"
abbrev pub pane_misplaced : Session → ℕ → Bool
pane_misplaced s len = s.opened || (leb most_panes s.console.count || ltb most_stores (s.stores + len))

-- "an `o` without `s`"
abbrev pub open_misplaced : Session → Bool
open_misplaced s = s.opened || not s.sized

-- what a line does, by what it says
unfoldable pub after_line : Line → SessionState → Reaction
after_line (sizing g) d = unless (screen_misplaced d.session g) d (taken_line d (with_geometry d.session g))
after_line (adding left top w h len) d =
    unless (pane_misplaced d.session len) d
    (taken_line d (with_row d.session (next_row d.session left top w h len)))
after_line opening d =
    let a = set_up (in_use d) in
    unless (open_misplaced d.session) d
    (whole_buffers d (call_made (after_set_up d.session a.reply) letter_open a))
after_line (asking letter r) d =
    unless (not d.session.opened) d (whole_buffers d (call_made d.session letter (exec (in_use d) r)))
after_line malformed d = question_line d
