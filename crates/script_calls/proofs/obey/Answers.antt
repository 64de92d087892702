-- The bytes in use are lent to the call and come back.
use Rattle.std.proofs.Common.{◌≡◌, ◌∙◌}
use Rattle.model.specs.Calls.{exec, on}
use Rattle.script_lines.specs.declared.Line.TheVariants as written
use Rattle.script_lines.specs.Lines.{call_said}
use Rattle.script_session.specs.SessionState.{after_line}
use Rattle.script_session.proofs.SessionLaws.{call_made_lem}
use Rattle.script_calls.proofs.obey.Goals as goal

pub returns : goal.returns
unfolding after_line
returns c =
    let a = c.args in
    let ask = c.in-Some-Ask in
    let same : ask.field-0 ≡ written.Ask ask.letter ask.pane ask.call = rw ask.is at ask.field-0-is in
    let request = on ask.pane (call_said ask.call a.buffer.now) in
    call_made_lem (λ _. a.session) ask.letter (λ x. exec x request) a.session a.screen.now a.stores.now
    c.count_within-n.ensures.least c.count_within-m.ensures.least c.replied.ensures c.make_call-answered.ensures
    ∙ rw (ask.is, same, c.requires)
