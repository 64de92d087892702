-- Every reply finds room: a line prints no more bytes than the longest reply has, and a script has no more lines than bytes.
use mathlib.Core.Path.{◌≡◌}
use mathlib.Core.Bool.{not}
use mathlib.Core.List.{List, [], ◌∷◌}
use Prim.Native.Nat.{ℕ, suc, ◌*◌, ◌≤◌}
use native.Mathlib.Omega.{arith}
use borrow.Author.Tests.{ltb-false}
use lib.Dec.{ltb, eqb}
use lib.ListN.{length, take, length-append}
use lib.Seq.{take_all}
use Rattle.model.specs.declared.Geometry.{Geometry}
use Rattle.model.specs.declared.Row.{Row}
use Rattle.model.specs.declared.Pane.{Pane}
use Rattle.model.specs.Record.{fresh}
use Rattle.model.specs.Judge.{verdict_of}
use Rattle.model.specs.Replies.{Verdict, Clean, Found, accepted_with, verdict_values}
use Rattle.model.specs.Calls.{State, Answer, Call, Request, put, start, run, look, pixel, peek, clear, judge, switch, on_pane, exec, set_up}
use Rattle.model.specs.Calls.{row_of, record_of, store_of, setup_refusal, refusal, started, with_pane, accepted}
use Rattle.model.proofs.Decisions.{cond_ind}
use Rattle.script_fields.specs.Fields.{line_feed, lines_of, most_script}
use Rattle.std.specs.List.{onto_first}
use Rattle.script_lines.specs.declared.Language.{Language}
use Rattle.script_lines.specs.Lines.{Line, sizing, adding, opening, asking, malformed, line_of, letter_open}
use Rattle.script_replies.specs.Replies.{most_reply}
use Rattle.script_replies.proofs.LengthLaws.{Short, reply_length}
use Rattle.script_session.specs.SessionState.{SessionState, Reaction, in_use, call_made, whole_buffers, after_line}
use Rattle.script_session.specs.SessionState.{screen_misplaced, pane_misplaced, open_misplaced}
use Rattle.script.specs.Scripts.{outcome_text, printed, new_state, room, answered}

-- ## A line

-- a verdict has two values
verdict_short : (v : Verdict) → Short (accepted_with (verdict_values v))
verdict_short (Clean n) = omega arith
verdict_short (Found f a) = omega arith

-- a call answers seven values at most: those of look
on_pane_short : (g : Geometry) (r : Row) (p : Pane) (screen store : List ℕ) (x : Call) → Short (on_pane g r p screen store x).reply
unfolding on_pane
on_pane_short g r p screen store (put a bytes) = omega arith
on_pane_short g r p screen store (start a) = omega arith
on_pane_short g r p screen store (run budget) = omega arith
on_pane_short g r p screen store look = omega arith
on_pane_short g r p screen store (pixel x y) = omega arith
on_pane_short g r p screen store (peek a) = omega arith
on_pane_short g r p screen store clear = omega arith
on_pane_short g r p screen store (judge a) = verdict_short (verdict_of g r store (started fresh a))
on_pane_short g r p screen store (switch v) = omega arith

exec_short : (s : State) (c : Request) → Short (exec s c).reply
unfolding exec accepted with_pane
exec_short s c =
    let k = c.number in
    cond_ind (λ (a : Answer). Short a.reply) (eqb (refusal s c) 0) _ _
    (λ e. on_pane_short s.console.geometry (row_of s k) (record_of s k) s.screen (store_of s k) c.call) (λ e. tt)

set_up_short : (s : State) → Short (set_up s).reply
unfolding set_up
set_up_short s = cond_ind (λ (a : Answer). Short a.reply) (eqb (setup_refusal s) 0) _ _ (λ e. omega arith) (λ e. tt)

-- a line prints no more than the longest reply
abbrev Brief : Reaction → Type 0
Brief m = length (outcome_text m.outcome) ≤ most_reply

line_length : (l : Line) (d : SessionState) → Brief (after_line l d)
unfolding after_line whole_buffers call_made
line_length (sizing g) d = cond_ind Brief (screen_misplaced d.session g) _ _ (λ e. omega arith) (λ e. omega arith)
line_length (adding left top w h len) d = cond_ind Brief (pane_misplaced d.session len) _ _ (λ e. omega arith) (λ e. omega arith)
line_length opening d =
    let a = set_up (in_use d) in
    cond_ind Brief (open_misplaced d.session) _ _ (λ e. omega arith) (λ e. reply_length letter_open a.reply (set_up_short (in_use d)))
line_length (asking letter r) d =
    let a = exec (in_use d) r in
    cond_ind Brief (not d.session.opened) _ _ (λ e. omega arith) (λ e. reply_length letter a.reply (exec_short (in_use d) r))
line_length malformed d = omega arith

-- ## All lines

onto_first_length : (b : ℕ) (ps : List (List ℕ)) (n : ℕ) → length ps ≤ n → length (onto_first b ps) ≤ suc n
onto_first_length b [] n h = omega arith
onto_first_length b (p ∷ ps) n h = omega arith

lines_length : (l : List ℕ) → length (lines_of l) ≤ length l
unfolding lines_of
lines_length [] = omega arith
lines_length (b ∷ l) =
    let rest = lines_length l in
    cond_ind (λ (ps : List (List ℕ)). length ps ≤ suc (length l)) (eqb b line_feed) _ _ (λ e. omega arith)
    (λ e. onto_first_length b (lines_of l) (length l) rest)

printed_length : (language : Language) (ls : List (List ℕ)) (d : SessionState) → length (printed language ls d) ≤ most_reply * length ls
unfolding printed
printed_length language [] d = omega arith
printed_length language (l ∷ ls) d =
    let m = after_line (line_of language l) d in
    let rest = printed_length language ls m.state in
    omega (arith, length-append (outcome_text m.outcome) (printed language ls m.state), line_length (line_of language l) d)

answered_length : (language : Language) (script : List ℕ) → length (answered language script) ≤ room
unfolding answered
answered_length language script =
    cond_ind (λ (text : List ℕ). length text ≤ room) (ltb most_script (length script)) _ _ (λ e. omega arith)
    (λ e. omega (arith, ltb-false most_script (length script) e, lines_length script, printed_length language (lines_of script) new_state))

-- what a script prints, whole, where there is room
pub answered_whole : (language : Language) (script : List ℕ) (n : ℕ) → room ≤ n → take n (answered language script) ≡ answered language script
answered_whole language script n h = take_all n (answered language script) (omega (arith, answered_length language script))
