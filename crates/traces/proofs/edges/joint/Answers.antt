-- `traces::edges::joint` meets its contract.
use Rattle.traces.proofs.EdgeLaws.{joint_is}
use Rattle.traces.proofs.edges.joint.Goals as goal

pub returns : goal.returns
returns c =
    joint_is c.args.axes c.args.first c.args.major c.args.minor c.among.result c.reach-from.ensures c.reach-end.ensures (cc)
    c.requires.1 c.among.ensures
