-- The cycle of calls {judge_command, judge_list}. The command judge calls the list judge with one return address more, so with one level less,
-- and the list judge calls the command judge with the same: 2 × levels for the command judge, one more for the list judge. The list judge's loop
-- ends since the walk remaining falls. Its invariant: what is left to walk gives the same verdict, whatever return addresses are kept.
use Prim.Native.Nat.{◌+◌, ◌-◌}
use Rattle.judge.proofs.JudgeLaws.{Walking}
use Rattle.judge.proofs.+judge_command_judge_list.Given as goal

abbrev pub decreases-judge_command : goal.decreases-judge_command
decreases-judge_command l = (8 - l.x.kept) + (8 - l.x.kept)

abbrev pub decreases-judge_list : goal.decreases-judge_list
decreases-judge_list l = (8 - l.begun.kept) + (8 - l.begun.kept) + 1

abbrev pub invariant-judge_list-loop-fault : goal.invariant-judge_list-loop-fault
invariant-judge_list-loop-fault l = Walking l.fn.f.geometry l.fn.f.row l.fn.store l.fn.begun l.fn.from l.fn.most l.x l.at l.left

abbrev pub decreases-judge_list-loop-fault : goal.decreases-judge_list-loop-fault
decreases-judge_list-loop-fault l = l.left
