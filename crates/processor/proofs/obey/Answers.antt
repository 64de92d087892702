-- `processor::obey` meets its contract: a fault is recorded and nothing else, and a command without one is done.
use mathlib.Core.Path.{sym, ◌∙◌}
use native.Mathlib.Omega.{arith}
use borrow.Author.Tests.{eqb-false}
use Rattle.model.specs.Numbers.{fault_number}
use Rattle.model.proofs.NumberLaws.{fault_some}
use Rattle.processor.proofs.ObeyLaws.{obeyed_fault, obeyed_done}
use Rattle.processor.proofs.obey.Goals as goal

pub returns-in-Err : goal.returns-in-Err
returns-in-Err c =
    let f = c.in-Err.fault in
    rw c.finish_with.ensures
    (record {
      leaves = obeyed_fault _ _ _ _ _ _ _ _ _ c.in-Err.ensures (eqb-false (fault_number f) 0 (fault_some f)) c.faulted.ensures;
      one = omega arith;
      few = omega arith;
    })

pub returns : goal.returns
returns c =
    rw c.finish_with-2.ensures
    (record {
      leaves = c.perform-d.ensures.leaves ∙ obeyed_done _ _ _ _ _ _ _ (sym c.in_default.ensures);
      one = omega arith;
      few = omega (arith, c.perform-d.ensures.few);
    })
