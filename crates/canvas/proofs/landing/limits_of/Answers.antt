-- `canvas::landing::limits_of` meets its contract, by whether the scissor is empty.
use mathlib.Core.Path.{sym, ◌∙◌}
use borrow.Author.Tests.{eq-eqb, ne_eqb}
use Rattle.model.proofs.Decisions.{cond_true, cond_false}
use Rattle.canvas.specs.Targets.{limits_of}
use Rattle.canvas.proofs.landing.limits_of.Goals as goal

pub returns-then-s-eq0 : goal.returns-then-s-eq0
unfolding limits_of
returns-then-s-eq0 c = sym (cond_true _ _ (eq-eqb _ 0 c.if-s-eq0.true))

pub returns : goal.returns
unfolding limits_of
returns c = c.first_to_last.ensures ∙ sym (cond_false _ _ (ne_eqb _ 0 c.if-s-eq0.false))
