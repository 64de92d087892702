-- `ink_at` meets its contract: a word's bits are those of its two bytes.
use mathlib.Core.Path.{◌≡◌, ap, ◌∙◌}
use Prim.Native.Nat.{ℕ, ◌+◌, ◌*◌}
use mathlib.Core.List.{List}
use native.Mathlib.Omega.{arith}
use lib.ListN.{get_or}
use Rattle.model.specs.Words.{bit}
use Rattle.strips.proofs.EdgeLaws.{word_bit_lem}
use Rattle.strips.proofs.stretches.ink_at.Goals as goal

pub returns : goal.returns
returns c =
    let s : List ℕ = c.args.strips.now in
    let a : ℕ = c.args.at in
    let e : c.from_le_bytes.result ≡ get_or s a 0 + 256 * get_or s (a + 1) 0 = omega (arith, c.from_le_bytes.ensures) in
    let f : c.from_le_bytes-2.result ≡ get_or s (a + 16) 0 + 256 * get_or s (a + 16 + 1) 0
    = let z : a + 16 + 1 ≡ a + 17 = omega arith in rw z (omega (arith, c.from_le_bytes-2.ensures)) in
    record {
      keep = λ i l. ap (λ (x : ℕ). bit x i) e ∙ word_bit_lem s a i (c.type_inv.strips a).fits l;
      flip = λ i l. ap (λ (x : ℕ). bit x i) f ∙ word_bit_lem s (a + 16) i (c.type_inv.strips (a + 16)).fits l;
    }
