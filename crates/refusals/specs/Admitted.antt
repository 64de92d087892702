-- What a call on a pane may rely on once nothing is refused.
use Rattle.std.specs.Prelude.{ℕ, ◌+◌, ◌≤◌, ◌<◌}
use Rattle.model.specs.declared.Console.{Console}
use Rattle.model.specs.Setup.{row_at, pane_at}
use Rattle.bitmaps.specs.Places.{Placed}
use Rattle.refusals.specs.Good.{Good}

-- pane k has a row and a record among the eight, its store lies in the stores buffer, and both its place and
-- its record are good; by the console record and the lengths of the two buffers
pub record Admitted (c : Console) (screen stores k : ℕ) : Type 0 where
  pub below : k < c.count
  pub count : c.count ≤ 8
  pub index : k < 8
  pub room : (row_at c.rows k).start + (row_at c.rows k).len ≤ stores
  pub placed : Placed c.geometry (row_at c.rows k) screen (row_at c.rows k).len
  pub good : Good c.geometry (row_at c.rows k) (pane_at c.panes k)
