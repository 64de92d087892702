-- The invariant: the bytes before place i are written, and those that the rest of the field spells, after them, are those that all of it spells.
use Rattle.std.proofs.Common.{sym, ap, ◌∙◌, arith, length, length-append}
use Rattle.script_fields.proofs.ReadingLaws.{prefixed_next, prefixed_other, spelled_bytes_next}
use Rattle.script_fields.proofs.spelled_bytes.Goals as goal

-- two digits that spell no byte
pub returns-in_err-buffer : goal.returns-in_err-buffer
returns-in_err-buffer c =
    let cut = c.in-Some.ensures.steps.0 in
    let next = spelled_bytes_next _ _ _ cut.1.0 (cut.1.1 ∙ c.loop-i.invariant.by_two) in
    rw c.from_residual.ensures (sym (prefixed_other _ _ next c.in_err-buffer.ensures) ∙ c.loop-i.invariant.read)

pub loop-i-preserved : goal.loop-i-preserved
loop-i-preserved c =
    let step = c.in-Some.ensures.steps in
    let cut = step.0 in
    let two = cut.1.1 ∙ c.loop-i.invariant.by_two in
    let next = spelled_bytes_next _ _ _ cut.1.0 two in
    let fewer = simp length-append at (ap length cut.1.0) in
    record {
      by_two = cut.0 ∙ c.loop-i.invariant.by_two;
      left = omega arith;
      read = rw (step.2, step.1) (prefixed_next _ _ _ _ (omega arith) next c.in_ok-buffer.ensures ∙ c.loop-i.invariant.read);
    }
