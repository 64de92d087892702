-- `traces::edges::edges_of` meets its contract, where x is the major axis and where y is.
use Rattle.std.proofs.Common.{sym, ◌∙◌}
use Rattle.strips.proofs.StretchLaws.{true_false}
use Rattle.traces.proofs.EdgeLaws.{edges_level, edges_steep}
use Rattle.traces.proofs.edges.edges_of.Goals as goal
use Rattle.traces.proofs.edges.edges_of.Goals.{then-axes, else-axes}

pub returns-then-axes-2 : goal.returns-then-axes-2
returns-then-axes-2 c = elim c.if-axes.branch [
  | then-axes w ↦ edges_level c.args.clip c.args.s c.requires.sloped c.if-axes-2.true (rw w.across-is at c.edges_between-columns.ensures)
      (rw w.across-is at c.edges_between-rows.ensures) c.joint.ensures
  | else-axes w ↦ absurd (true_false (sym c.if-axes-2.true ∙ w.if-axes.false))
]

pub returns-else-axes-2 : goal.returns-else-axes-2
returns-else-axes-2 c = elim c.if-axes.branch [
  | then-axes w ↦ absurd (true_false (sym w.if-axes.true ∙ c.if-axes-2.false))
  | else-axes w ↦ edges_steep c.args.clip c.args.s c.requires.sloped c.if-axes-2.false (rw w.across-is at c.edges_between-columns.ensures)
      (rw w.across-is at c.edges_between-rows.ensures) c.joint-else-axes-2.ensures
]
