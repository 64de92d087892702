-- `call_common::admit` meets its contract: where nothing is refused, row and record are those of the number.
use mathlib.Core.Path.{refl, sym}
use Rattle.refusals.proofs.AdmittedLaws.{call_checks_admitted}
use Rattle.call_common.proofs.admit.Goals as goal

pub bounds-console-k : goal.bounds-console-k
bounds-console-k c = (call_checks_admitted _ _ _ _ (sym c.in_ok-check_call.ensures)).index

pub bounds-console-k-2 : goal.bounds-console-k-2
bounds-console-k-2 c = (call_checks_admitted _ _ _ _ (sym c.in_ok-check_call.ensures)).index

pub returns : goal.returns
returns c = record {
  clear = sym c.in_ok-check_call.ensures;
  row = refl;
  pane = refl;
  admitted = call_checks_admitted _ _ _ _ (sym c.in_ok-check_call.ensures);
}
