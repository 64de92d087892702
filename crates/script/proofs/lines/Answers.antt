-- Each turn cuts the next line off what is left.
use Rattle.std.proofs.Common.{rules, tests, arith, ap, length, length-append}
use Rattle.std.proofs.lemmas.Fn.{always_returns_same}
use Rattle.std.specs.Prelude.{◌==◌}
use Rattle.script_fields.specs.Fields.{line_feed}
use Rattle.script_fields.proofs.LineLaws.{lines_of_next}
use Rattle.script_session.proofs.SessionLaws.{counts}
use Rattle.script.proofs.ScriptLaws.{obeyed_next, obeyed_all}
use Rattle.script.proofs.lines.Goals as goal

pub loop-line-preserved : goal.loop-line-preserved
loop-line-preserved c =
    let cut = c.in-Some.ensures.steps in
    let first = (cut.1.2 (λ b. b == line_feed) (always_returns_same _ _ _ (λ a r q k. search (rules, tests)))).1 in
    let feed = c.without_line_feed.ensures in
    let next = lines_of_next _ _ _ _ _ cut.0 cut.1.1 first feed.ended feed.unended cut.2 in
    let fewer = simp length-append at (ap length cut.0) in
    record {
      inside = omega arith;
      obeyed = obeyed_next _ _ _ _ _ c.loop-line.invariant.obeyed next c.one_line-step.ensures c.print-written.ensures;
    }

pub returns : goal.returns
returns c =
    let obeyed = c.loop-line.invariant.obeyed in
    record {
      within = counts _ _ (omega (arith, obeyed.wrote.fits));
      written = obeyed_all _ _ _ _ _ obeyed c.in-None.ensures.steps.0;
    }
