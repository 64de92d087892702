-- Where a plain operator meets equal phases, bytes carried are a copied stretch.
use mathlib.Core.Path.{◌≡◌, sym, ap, ◌∙◌}
use mathlib.Core.Logic.{◌⊎◌, inl, inr}
use mathlib.Core.Bool.{true, ◌&&◌}
use mathlib.Core.List.{List}
use Prim.Native.Nat.{ℕ, ◌+◌, ◌-◌, ◌*◌, ◌/◌, ◌%◌, ◌≤◌, ◌<◌}
use native.Mathlib.Nat.{add_comm}
use native.Mathlib.Omega.{arith}
use native.Mathlib.Decide.{dec_lt}
use borrow.Author.Tests.{eqb-true}
use lib.Dec.{eqb}
use lib.ListN.{get_or}
use Rattle.model.specs.Words.{bit, bit_at}
use Rattle.model.proofs.Decisions.{both_true}
use Rattle.strips.specs.Stretches.{across, In, Out, Stretched}
use Rattle.strips.proofs.FieldBits.{bit_at_byte}
use Rattle.strips.proofs.EdgeLaws.{kept_bit}
use Rattle.row_copies.specs.declared.operators.Operator.{Operator}
use Rattle.row_copies.specs.declared.rows.RowCopy.{RowCopy}
use Rattle.row_copies.specs.Rows.{SoundOperator, left_bit, copied, Inner, Carried}

-- the byte at which the source of word `first` begins
abbrev pub source_byte : RowCopy → ℕ → ℕ
source_byte c first = c.base + 2 * ((16 * first + c.from - c.to) / 16)

-- equal phases: a whole number z of words leads from the source's row to its bits for word f of the target
steps : (f from to : ℕ) → from % 16 ≡ to % 16 → to ≤ 16 * f → 16 * f + from ≡ to + 16 * ((16 * f + from - to) / 16)
steps f from to p h = omega arith

-- .. so bit r from the left of word a has its source in word a - f + z
stepped : (a r from to z f : ℕ) → f ≤ a → 16 * f + from ≡ to + 16 * z → 16 * a + r + from - to ≡ 16 * (a - f + z) + r
stepped a r from to z f h e = omega arith

-- .. and byte by byte
bytes_stepped : (o so f z m : ℕ) → 8 * o ≤ m → f ≤ (m - 8 * o) / 16
    → 8 * (so + 2 * z + (m / 8 - (o + 2 * f))) + m % 8 ≡ 8 * so + 16 * (z + ((m - 8 * o) / 16 - f)) + (m - 8 * o) % 16
bytes_stepped o so f z m h l =
    let a : m / 8 ≡ o + (m - 8 * o) / 8 = omega arith in
    let b : m % 8 ≡ (m - 8 * o) % 8 = omega arith in
    rw (a, b) (plain (m - 8 * o) l)
  where
    plain : (e : ℕ) → f ≤ e / 16 → 8 * (so + 2 * z + (o + e / 8 - (o + 2 * f))) + e % 8 ≡ 8 * so + 16 * (z + (e / 16 - f)) + e % 16
    plain e l =
        let c : o + e / 8 - (o + 2 * f) ≡ e / 8 - 2 * f = omega arith in
        rw c (omega arith)

-- the place of bit k from the left, for the k so found
left_spot : (so d r k : ℕ) → r < 16 → k ≡ 16 * d + (15 - r) → 8 * so + 16 * (k / 16) + (15 - k % 16) ≡ 8 * so + 16 * d + r
left_spot so d r k h q =
    let a : k / 16 ≡ d = omega arith in
    let b : k % 16 ≡ 15 - r = omega arith in
    rw (a, b) (let z : 8 * so + 16 * d + (15 - (15 - r)) ≡ 8 * so + 16 * d + r = omega arith in z)

-- THE LAW of the plain bytes: whole words carried are a copied stretch
module _ (x : Operator) (c : RowCopy) (first last : ℕ) {s old new : List ℕ} (sound : SoundOperator x)
    (phased : (x.plain && eqb (c.from % 16) (c.to % 16)) ≡ true)
    (inner : Inner c first last) (p : Carried (c.row + 2 * first) (source_byte c first) (2 * (last - first)) s old new) where
  plain : x.plain ≡ true
  plain = (both_true x.plain (eqb (c.from % 16) (c.to % 16)) phased).0

  phase : c.from % 16 ≡ c.to % 16
  phase = eqb-true (c.from % 16) (c.to % 16) (both_true x.plain (eqb (c.from % 16) (c.to % 16)) phased).1

  taken : (m : ℕ) → In c.row (16 * first) (16 * last) m → bit_at new m ≡ left_bit s c.base (across c.row m + c.from - c.to)
  unfolding bit_at left_bit
  taken m i =
      let z : ℕ = (16 * first + c.from - c.to) / 16 in
      let a : ℕ = (m - 8 * c.row) / 16 in
      let r : ℕ = (m - 8 * c.row) % 16 in
      let j : ℕ = m / 8 - (c.row + 2 * first) in
      let f : first ≤ (m - 8 * c.row) / 16 = omega (arith, i.from) in
      let n : j < 2 * (last - first) = omega (arith, i.row, i.from, i.to) in
      let b : c.row + 2 * first + j ≡ m / 8 = omega (arith, i.row) in
      let k : across c.row m + c.from - c.to ≡ 16 * (a - first + z) + (15 - r)
      = stepped a (15 - r) c.from c.to z first f (steps first c.from c.to phase inner.from) in
      let w : a - first + z ≡ z + (a - first) = add_comm (a - first) z in
      ap (λ (v : ℕ). bit (get_or new v 0) (m % 8)) (sym b) ∙ ap (λ (v : ℕ). bit v (m % 8)) (p.inside j n)
      ∙ sym (bit_at_byte s (source_byte c first + j) (m % 8) (omega arith))
      ∙ ap (bit_at s) (bytes_stepped c.row c.base first z m i.row f
      ∙ ap (λ (v : ℕ). 8 * c.base + 16 * v + r) (sym w)
      ∙ sym (left_spot c.base (a - first + z) r (across c.row m + c.from - c.to) (omega arith) k))

  pub carried_copied : Stretched (copied x c s) c.row (16 * first) (16 * last) old new
  unfolding copied
  carried_copied = record {
    length = p.length;
    inside = λ m i. taken m i ∙ sym (sound.passes plain ((m - 8 * c.row) % 16) (omega arith) _ (bit_at old m));
    outside = λ m i. kept_bit m old new (p.outside (m / 8) (far m i));
  }
    where
      far : (m : ℕ) → Out c.row (16 * first) (16 * last) m → (m / 8 < c.row + 2 * first) ⊎ (c.row + 2 * first + 2 * (last - first) ≤ m / 8)
      far m (inl i) = inl (omega arith)
      far m (inr (inl i)) = inl (omega arith)
      far m (inr (inr i)) = go (dec_lt m (8 * c.row))
        where
          go : Dec (m < 8 * c.row) → (m / 8 < c.row + 2 * first) ⊎ (c.row + 2 * first + 2 * (last - first) ≤ m / 8)
          go (yes l) = inl (omega arith)
          go (no l) = inr (omega (arith, inner.order))
