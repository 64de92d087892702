-- Bytes that are to stand in a store from an address on: the room they have, and the store once they do.
use mathlib.Core.Path.{◌≡◌, sym, ap, ◌∙◌}
use mathlib.Core.List.{List, ◌++◌, append_assoc}
use Prim.Native.Nat.{ℕ, ◌+◌, ◌-◌, ◌≤◌}
use native.Mathlib.Omega.{arith}
use lib.Dec.{ltb}
use lib.ListN.{length, take, drop}
use lib.Seq.{paste, take-length, drop-drop}
use borrow.Author.Tests.{ltb-true, ltb-false, lt-ltb, le-ltb}
use Rattle.model.specs.Calls.{in_part}
use Rattle.model.proofs.Decisions.{split}

pub ltb_room : (len a n : ℕ) → a ≤ len → ltb (len - a) n ≡ ltb len (a + n)
ltb_room len a n h = split (ltb len (a + n))
    (λ e. let l = ltb-true len (a + n) e in lt-ltb (len - a) n (omega arith) ∙ sym e)
    (λ e. let l = ltb-false len (a + n) e in le-ltb (len - a) n (omega arith) ∙ sym e)

pub paste_in_part : (l : List ℕ) (at : ℕ) (new : List ℕ) → paste l at new (length new) ≡ in_part l at (length new) new
unfolding in_part
paste_in_part l at new =
    ap (λ (m : List ℕ). take at l ++ m ++ drop (at + length new) l) (take-length new)
    ∙ append_assoc (take at l) new (drop (at + length new) l)
    ∙ ap (λ (m : List ℕ). take at l ++ (new ++ m)) (sym (drop-drop (length new) at l))
