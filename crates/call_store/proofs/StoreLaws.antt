-- What put and peek rely on once their own check does not refuse them.
use mathlib.Core.Path.{◌≡◌, sym}
use mathlib.Core.List.{List}
use Prim.Native.Nat.{ℕ, ◌+◌, ◌≤◌, ◌<◌}
use lib.Dec.{ltb, leb}
use lib.ListN.{length}
use borrow.Author.Tests.{ltb-false, leb-false}
use Rattle.model.specs.Numbers.{refuse_end}
use Rattle.model.specs.declared.Row.{Row}
use Rattle.model.specs.declared.Pane.{Pane}
use Rattle.model.specs.Record.{no_pane}
use Rattle.model.specs.Calls.{put, peek, own_refusal}
use Rattle.model.proofs.Decisions.{cond_none}

module _ (r : Row) (a : ℕ) where
  -- put's bytes end in the store
  pub put_room : (bytes : List ℕ) → ((p : Pane) → 0 ≡ own_refusal r p (put a bytes)) → a + length bytes ≤ r.len
  unfolding own_refusal
  put_room bytes e = ltb-false r.len (a + length bytes) (cond_none (ltb r.len (a + length bytes)) refuse_end 0 tt (sym (e no_pane))).0

  -- peek's byte is one of the store's
  pub peek_below : ((p : Pane) → 0 ≡ own_refusal r p (peek a)) → a < r.len
  unfolding own_refusal
  peek_below e = leb-false r.len a (cond_none (leb r.len a) refuse_end 0 tt (sym (e no_pane))).0
