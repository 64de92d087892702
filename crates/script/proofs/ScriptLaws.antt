-- What a script prints, line after line.
use Rattle.std.proofs.Common.{◌≡◌, List, [], ◌∷◌, ◌++◌, ℕ, ◌≤◌, sym, ap, ◌∙◌, append_assoc, append-nil, arith, length, take}
use Rattle.std.proofs.lemmas.Bool.{le-ltb}
use Rattle.script_fields.specs.Fields.{lines_of, most_script}
use Rattle.script_fields.proofs.LineLaws.{lines_of_none}
use Rattle.script_lines.specs.declared.Language.{Language}
use Rattle.script_lines.specs.Lines.{line_of}
use Rattle.script_numerals.specs.Numerals.{Wrote}
use Rattle.script_numerals.proofs.WroteLaws.{Wrote-then, Wrote-none}
use Rattle.script_session.specs.declared.Session.{Session}
use Rattle.script_session.specs.SessionState.{LineOutcome, SessionState, session_state, Reaction, reaction, new_session, after_line}
use Rattle.script.specs.Scripts.{outcome_text, printed, new_state, answered}

-- ## The lines before what is left are obeyed

module _ (language : Language) (script screen₀ stores₀ out₀ : List ℕ) where
  -- Their replies are written, and what is left prints the rest of what the whole script prints.
  pub record Obeyed (left : List ℕ) (d : SessionState) (out : List ℕ) (written : ℕ) : Type 0 where
    pub text : List ℕ
    pub wrote : Wrote out₀ 0 text out written
    pub rest : text ++ printed language (lines_of left) d ≡ printed language (lines_of script) (session_state new_session screen₀ stores₀)

  -- no line
  pub obeyed_none : {s : Session} → s ≡ new_session → Obeyed script (session_state s screen₀ stores₀) out₀ 0
  obeyed_none e =
      record {
        text = [];
        wrote = Wrote-none out₀ 0 (omega arith);
        rest = ap (λ (s : Session). printed language (lines_of script) (session_state s screen₀ stores₀)) e;
      }

  -- one line more
  pub obeyed_next :
      {left line after : List ℕ} {d e : SessionState} {out out' : List ℕ} {written written' : ℕ} {o : LineOutcome} →
      Obeyed left d out written →
      lines_of left ≡ line ∷ lines_of after →
      reaction e o ≡ after_line (line_of language line) d →
      Wrote out written (outcome_text o) out' written' →
      Obeyed after e out' written'
  unfolding printed
  obeyed_next {after = after} {d = d} before next obeyed w =
      record {
        text = _;
        wrote = Wrote-then before.wrote w;
        rest =
            append_assoc before.text _ _
            ∙ ap (λ (m : Reaction). before.text ++ (outcome_text m.outcome ++ printed language (lines_of after) m.state)) obeyed
            ∙ ap (λ (ls : List (List ℕ)). before.text ++ printed language ls d) (sym next)
            ∙ before.rest;
      }

  -- every line
  pub obeyed_all :
      {left : List ℕ} {d : SessionState} {out : List ℕ} {written : ℕ} →
      Obeyed left d out written →
      length left ≡ 0 →
      take written out ≡ take (length out₀) (printed language (lines_of script) (session_state new_session screen₀ stores₀))
  unfolding printed
  obeyed_all {left} {d} before h =
      let all : before.text ≡ printed language (lines_of script) (session_state new_session screen₀ stores₀) =
      sym (append-nil before.text) ∙ (rw (lines_of_none left h) at before.rest) in
      before.wrote.bytes ∙ ap (take (length out₀)) all

-- ## The whole script

-- one within the limit, on buffers of zeros
pub answered_lines :
    (language : Language) (script : List ℕ) →
    length script ≤ most_script →
    {screen stores : List ℕ} →
    screen ≡ new_state.screen →
    stores ≡ new_state.stores →
    printed language (lines_of script) (session_state new_session screen stores) ≡ answered language script
unfolding answered
answered_lines language script h e f = rw (e, f, le-ltb most_script (length script) h)
