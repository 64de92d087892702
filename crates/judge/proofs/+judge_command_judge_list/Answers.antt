-- The cycle of calls {judge_command, judge_list}: what each of them answers, and what each call asks.
use mathlib.Core.Path.{sym, ◌∙◌}
use native.Mathlib.Omega.{arith}
use Rattle.std.proofs.lemmas.Result.{err_from_is_err_and}
use Rattle.decoder.proofs.DecodeLaws.{decode_addressed}
use Rattle.judge.proofs.JudgeLaws as laws
use Rattle.judge.proofs.+judge_command_judge_list.Goals as goal

-- ## The command judge

pub judge_command-returns-in-Err : goal.judge_command-returns-in-Err
judge_command-returns-in-Err t c = laws.command_fault _ _ _ _ _ _ _ _ _ c.in-Err.ensures.fault

-- CALL: what it asks, and the list that it goes to
pub judge_command-judge_list-requires : goal.judge_command-judge_list-requires
judge_command-judge_list-requires t c =
    let known = rw c.in-Ok-Calls.field-0-is at c.in-Ok-Calls.ensures.role in
    let room = laws.command_room _ _ _ _ c.args.at c.args.left _ c.args.next c.requires.0 c.requires.1 c.in-Ok-Calls.ensures.fault _ known in
    (omega (arith, room), laws.command_called _ _ _ _ c.args.at c.args.left _ c.args.next c.requires.0 c.requires.1 c.in-Ok-Calls.ensures.fault _ known)

pub judge_command-returns-in_err-rest-in-Ok-Calls : goal.judge_command-returns-in_err-rest-in-Ok-Calls
judge_command-returns-in_err-rest-in-Ok-Calls t c =
    let p = err_from_is_err_and c.from_residual.result c.from_residual.ensures.1 in
    rw (p.1, p.2) (laws.command_met _ _ _ _ _ _ _ _ c.requires.0 c.requires.1 c.in-Ok-Calls.ensures.fault _
    (rw c.in-Ok-Calls.field-0-is at c.in-Ok-Calls.ensures.role) _ c.in_err-rest-in-Ok-Calls.ensures)

pub judge_command-returns-in-Ended : goal.judge_command-returns-in-Ended
judge_command-returns-in-Ended t c =
    laws.command_ended _ _ _ _ _ _ _ _ c.requires.0 c.requires.1 c.in-Ok-Calls.ensures.fault _
    (rw c.in-Ok-Calls.field-0-is at c.in-Ok-Calls.ensures.role) _ (rw c.in-Ended.is at c.in_ok-rest-in-Ok-Calls.ensures)

pub judge_command-returns-in-Returned : goal.judge_command-returns-in-Returned
judge_command-returns-in-Returned t c =
    laws.command_returned _ _ _ _ _ _ _ _ c.requires.0 c.requires.1 c.in-Ok-Calls.ensures.fault _
    (rw c.in-Ok-Calls.field-0-is at c.in-Ok-Calls.ensures.role) _ _ (rw c.in-Returned.is at c.in_ok-rest-in-Ok-Calls.ensures)

-- RETURN
pub judge_command-overflow_sub-back : goal.judge_command-overflow_sub-back
judge_command-overflow_sub-back t c =
    laws.command_kept _ _ _ _ c.args.at c.args.left _ c.args.next c.requires.0 c.requires.1 c.in-Ok-Returns.ensures.fault
    (rw c.in-Ok-Returns.field-0-is at c.in-Ok-Returns.ensures.role)

pub judge_command-returns-in-Ok-Returns : goal.judge_command-returns-in-Ok-Returns
judge_command-returns-in-Ok-Returns t c =
    laws.command_back _ _ _ _ _ _ _ _ c.requires.0 c.requires.1 c.in-Ok-Returns.ensures.fault
    (rw c.in-Ok-Returns.field-0-is at c.in-Ok-Returns.ensures.role)

-- DEF_BITMAP, DEF_CHAR_SET, and any other
pub judge_command-returns-in-Ok-SetsBitmap : goal.judge_command-returns-in-Ok-SetsBitmap
judge_command-returns-in-Ok-SetsBitmap t c =
    laws.command_bitmap _ _ _ _ _ _ _ _ c.requires.0 c.requires.1 c.in-Ok-SetsBitmap.ensures.fault _ _ _
    (rw c.in-Ok-SetsBitmap.field-0-is at c.in-Ok-SetsBitmap.ensures.role)

pub judge_command-returns-in-Ok-SetsFont : goal.judge_command-returns-in-Ok-SetsFont
judge_command-returns-in-Ok-SetsFont t c =
    laws.command_font _ _ _ _ _ _ _ _ c.requires.0 c.requires.1 c.in-Ok-SetsFont.ensures.fault _
    (rw c.in-Ok-SetsFont.field-0-is at c.in-Ok-SetsFont.ensures.role)

pub judge_command-returns-in-Ok-Plain : goal.judge_command-returns-in-Ok-Plain
judge_command-returns-in-Ok-Plain t c =
    laws.command_plain _ _ _ _ _ _ _ _ c.requires.0 c.requires.1 c.in-Ok-Plain.ensures.fault
    (rw c.in-Ok-Plain.field-0-is at c.in-Ok-Plain.ensures.role)

-- ## The list judge

-- an end word
pub judge_list-returns-in-End : goal.judge_list-returns-in-End
judge_list-returns-in-End t c =
    laws.list_ended c.loop-fault.invariant (sym c.in-End.is ∙ c.decode.ensures)

-- anything else, with nothing left to walk
pub judge_list-returns-in_default : goal.judge_list-returns-in_default
judge_list-returns-in_default t c =
    laws.list_long c.loop-fault.invariant _ c.if-left-eq0.true c.in_default.not-End c.decode.ensures

-- a fault of the decoder
pub judge_list-returns-in-Fault : goal.judge_list-returns-in-Fault
judge_list-returns-in-Fault t c =
    laws.list_fault c.loop-fault.invariant _ c.if-left-eq0.false c.in-Fault.ensures

-- a command
pub judge_list-judge_command-requires : goal.judge_list-judge_command-requires
judge_list-judge_command-requires t c =
    let further = c.loop-fault.invariant.further in (
      omega (arith, further.kept),
      (
        record { checkable = further.checkable; most = omega (arith, c.requires.most, further.kept) },
        decode_addressed _ c.args.store.now c.loop-fault.at _ _ (λ k. (c.type_inv.store k).fits) (sym c.in-Do.ensures),
      ),
    )

pub judge_list-returns-in_err-y-in-Do : goal.judge_list-returns-in_err-y-in-Do
judge_list-returns-in_err-y-in-Do t c =
    let p = err_from_is_err_and c.from_residual.result c.from_residual.ensures.1 in
    rw (p.1, p.2) (laws.list_met c.loop-fault.invariant _ _ c.if-left-eq0.false c.in-Do.ensures
    _ c.in_err-y-in-Do.ensures)

pub judge_list-loop-fault-preserved : goal.judge_list-loop-fault-preserved
judge_list-loop-fault-preserved t c =
    laws.list_on c.loop-fault.invariant _ _ c.if-left-eq0.false c.in-Do.ensures
    _ _ _ (rw c.in-On.is at c.in_ok-y-in-Do.ensures)

pub judge_list-returns-in-Stops : goal.judge_list-returns-in-Stops
judge_list-returns-in-Stops t c =
    laws.list_stops c.loop-fault.invariant _ _ c.if-left-eq0.false c.in-Do.ensures
    _ (rw c.in-Stops.is at c.in_ok-y-in-Do.ensures)
