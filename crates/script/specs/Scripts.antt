-- The script program as a whole, in the language of `panes` or of `calls`: "reads lines from standard input"
-- and prints their replies.
use Rattle.std.specs.Prelude.{ℕ, ◌*◌, cond, List, [], ◌∷◌, ◌++◌, ltb, length, replicate}
use Rattle.script_fields.specs.Fields.{lines_of, most_script}
use Rattle.script_lines.specs.declared.Language.{Language}
use Rattle.script_lines.specs.Lines.{line_of}
use Rattle.script_session.specs.SessionState.{LineOutcome, question, silence, replying, SessionState, session_state}
use Rattle.script_session.specs.SessionState.{new_session, after_line, most_screen, most_stores}
use Rattle.script_replies.specs.Replies.{reply_text, malformed_text, most_reply}

-- what a line prints: "?", nothing, or its reply
abbrev pub outcome_text : LineOutcome → List ℕ
outcome_text question = malformed_text
outcome_text silence = []
outcome_text (replying letter r) = reply_text letter r

-- what lines print, one after the other
unfoldable pub printed : Language → List (List ℕ) → SessionState → List ℕ
printed language [] d = []
printed language (l ∷ ls) d =
    let m = after_line (line_of language l) d in
    outcome_text m.outcome ++ printed language ls m.state

-- "screen and stores zeroed"
abbrev pub new_state : SessionState
new_state = session_state new_session (replicate most_screen 0) (replicate most_stores 0)

-- "a longer script prints only ?"
unfoldable pub answered : Language → List ℕ → List ℕ
answered language script =
    cond (ltb most_script (length script)) malformed_text (printed language (lines_of script) new_state)

-- bytes for all that a script can print: those of a reply for each byte of the longest
abbrev pub room : ℕ
room = most_reply * most_script
