-- The invariant: i numbers are read, and with those from number i on they are the line's.
use Rattle.std.proofs.Common.{sym, ◌∙◌, arith, length-set}
use Rattle.script_fields.specs.Fields.{fields_of}
use Rattle.script_fields.proofs.ReadingLaws.{prefixed_next, line_numbers_other, numbers_from_next}
use Rattle.script_fields.proofs.numbers.Goals as goal

-- another number of fields
pub returns-then-commas-fields : goal.returns-then-commas-fields
returns-then-commas-fields c = sym (line_numbers_other _ _ _ _ c.commas.ensures c.if-commas-fields.true)

pub loop-i-preserved : goal.loop-i-preserved
loop-i-preserved c =
    let next = numbers_from_next c.loop-i.i c.args.bases.now (fields_of c.args.line.now) c.loop-i-test.true in (
      length-set _ _ _ ∙ c.loop-i.invariant.0,
      prefixed_next _ _ _ _ (omega arith) next (rw c.field.ensures.value at c.in_ok-values.ensures) ∙ c.loop-i.invariant.1,
    )
