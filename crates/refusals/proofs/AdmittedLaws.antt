-- Where nothing is refused of a call on a pane, the call has all that it relies on.
use mathlib.Core.Path.{◌≡◌, refl}
use Prim.Native.Nat.{ℕ, ◌<◌}
use native.Mathlib.Omega.{arith}
use lib.Dec.{leb}
use borrow.Author.Tests.{leb-false}
use Rattle.model.specs.Numbers.{refuse_pane, refuse_record}
use Rattle.model.specs.declared.Console.{Console}
use Rattle.model.specs.Setup.{row_at, pane_at, checks, pane_bad}
use Rattle.model.specs.Calls.{call_checks}
use Rattle.model.proofs.Decisions.{cond_none, or_else_none}
use Rattle.model.proofs.SetupLaws.{checks_say}
use Rattle.refusals.specs.Admitted.{Admitted}
use Rattle.refusals.proofs.GoodLaws.{pane_bad_good}

pub call_checks_admitted : (c : Console) (screen stores k : ℕ) → call_checks c screen stores k ≡ 0 → Admitted c screen stores k
unfolding call_checks
call_checks_admitted c screen stores k h =
    let a = or_else_none (checks c.geometry c.count c.rows screen stores) _ h in
    let b = cond_none (leb c.count k) refuse_pane _ tt a.1 in
    let d = cond_none (pane_bad c.geometry (row_at c.rows k) (pane_at c.panes k)) refuse_record 0 tt b.1 in
    let p = checks_say _ _ _ _ _ a.0 in
    let l : k < c.count = leb-false c.count k b.0 in
    let q = p.rectangle k l in
    let t = p.store k l in
    record {
      below = l;
      count = p.geometry.count;
      index = omega (arith, p.geometry.count);
      room = t.room;
      placed = record {
        width = p.geometry.width;
        height = p.geometry.height;
        depth = p.geometry.depth;
        wide = q.wide;
        tall = q.tall;
        right = q.right;
        bottom = q.bottom;
        long = p.long;
        part = refl;
        even = t.even;
        most = t.most;
      };
      good = pane_bad_good c.geometry (row_at c.rows k) (pane_at c.panes k) d.0;
    }
