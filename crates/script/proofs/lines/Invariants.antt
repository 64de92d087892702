-- The invariant: the lines before what is left are obeyed.
use Rattle.std.proofs.Common.{◌≤◌, length}
use Rattle.std.specs.Slice.Iter.{split_inclusive_rest}
use Rattle.script_session.specs.SessionState.{session_state}
use Rattle.script.proofs.ScriptLaws.{Obeyed}
use Rattle.script.proofs.lines.Given as goal

abbrev pub invariant-loop-line : goal.invariant-loop-line
invariant-loop-line l =
    let left = split_inclusive_rest l.line-iterator in record {
      inside : length left ≤ length l.script;
      obeyed : Obeyed l.language l.script l.initial.screen l.initial.stores l.initial.out left (session_state l.session l.screen l.stores) l.out l.written;
    }
