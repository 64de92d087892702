-- `strips::weaves::put` meets its contract: the eight bytes of a number are copied.
use mathlib.Core.Path.{◌≡◌, ap, ◌∙◌}
use Prim.Native.Nat.{ℕ, ◌*◌, ◌/◌, ◌%◌, ◌^◌}
use borrow.Author.Rules.{rules}
use native.Mathlib.Omega.{arith}
use mathlib.Core.Logic.{inl, inr}
use lib.ListN.{get_or}
use mathlib.Core.List.{List}
use Rattle.std.proofs.lemmas.Grind.{common_steps}
use Rattle.strips.proofs.WeaveLaws.{le_byte}
use Rattle.strips.proofs.weaves.put.Goals as goal

pub returns : goal.returns
returns c =
    record {
      length = search rules;
      inside = λ k h.
          let e : get_or c.copy_from_slice.new.self k 0 ≡ c.args.x / 2 ^ (8 * k) % 2 ^ 8
          = ap (λ (s : List ℕ). get_or s k 0) (c.copy_from_slice.ensures.after ∙ c.to_le_bytes.ensures) ∙ le_byte c.args.x k h in
          grind (arith, common_steps);
      outside = λ i o. elim o [ inl h ↦ grind (arith, common_steps) | inr h ↦ grind (arith, common_steps) ];
    }
