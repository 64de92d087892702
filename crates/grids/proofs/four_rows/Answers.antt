-- `grids::four_rows` meets its contract.
use Prim.Native.Nat.{ℕ, ◌^◌, ◌<◌}
use mir.Syntax.{w16}
use mir.Val.{Fits}
use lib.ListN.{get_or}
use borrow.Author.Rules.{rules}
use Rattle.grids.proofs.GridLaws.{four_rows}
use Rattle.grids.proofs.four_rows.Goals as goal
use Rattle.grids.proofs.four_rows.Goals.{Start}

words : (c : Start) (j : ℕ) → get_or c.args.rows j 0 < 2 ^ 16
words c j = let h : Fits w16 (get_or c.args.rows j 0) = search rules in h.fits

pub returns : goal.returns
returns c = four_rows c.args.rows (words (goal.at.returns c).Start) c.args.w
