-- Set-up on the bytes in use.
use Rattle.std.proofs.Common.{◌∙◌, take-append-drop}
use Rattle.model.specs.Calls.{set_up}
use Rattle.script_lines.specs.Lines.{letter_open}
use Rattle.script_session.specs.SessionState.{after_set_up, after_line}
use Rattle.script_session.proofs.SessionLaws.{call_made_lem}
use Rattle.script_setup.proofs.open.Goals as goal

pub returns : goal.returns
unfolding after_line
returns c =
    let a = c.args in
    let made =
    call_made_lem (after_set_up a.session) letter_open set_up a.session a.screen.now a.stores.now
    c.count_within-n.ensures.least c.count_within-m.ensures.least c.after_set_up.ensures c.set_up.ensures in
    (rw (take-append-drop, take-append-drop) at made) ∙ rw (c.requires, c.if-not-session.false)
