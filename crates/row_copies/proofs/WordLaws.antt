-- Words: what an operator makes of their bits, and the sixteen bits from any bit on of two words.
use mathlib.Core.Path.{◌≡◌, refl, sym, ap, ap₂, ◌∙◌}
use mathlib.Core.Logic.{◌≢◌}
use mathlib.Core.Bool.{Bool, true, false, cond, ◌&&◌, ◌||◌}
use Prim.Native.Nat.{ℕ, zero, suc, ◌+◌, ◌-◌, ◌*◌, ◌/◌, ◌%◌, ◌^◌, ◌<◌}
use native.Mathlib.Nat.{not-suc-le-zero, le_of_suc-le-suc, mul-mod_left}
use native.Mathlib.Omega.{arith}
use native.Mathlib.Decide.{dec_lt}
use borrow.Author.Tests.{eqb-true}
use lib.Bits.{bit_and, bit_or, bit_xor, or_shr, or_mod}
use lib.Dec.{eqb}
use Rattle.model.specs.Words.{bit}
use Rattle.model.specs.Operations.{op_bit, new_bit}
use Rattle.model.proofs.BitLaws.{bit_shr}
use Rattle.raster.specs.Operations.{spread}
use Rattle.raster.proofs.BitLaws.{bit_zero, bit_and_lem, bit_xor_lem, bit_mod, bit_shl, differs, mux_bit}
use Rattle.raster.proofs.Table.{each}
use Rattle.strips.specs.Strips.{mixed, mixed_bit}
use Rattle.strips.proofs.EdgeLaws.{mixed_bit_lem}
use Rattle.strips.proofs.BitParts.{bit_low, bit_high, bit_beyond, or_none}
use Rattle.row_copies.specs.declared.operators.Operator.{Operator}
use Rattle.row_copies.specs.Rows.{ink_over, operator_bit, SoundOperator, OperatorOf, Plane}
use Rattle.row_copies.specs.Chunks.{Muxed, Funnelled}

-- ## What an operator makes of a bit

pub ink_bit : (x : Operator) (source j : ℕ) (d : Bool) → mixed_bit (ink_over x source).keep (ink_over x source).flip j d ≡ operator_bit x j (bit source j) d
unfolding operator_bit
ink_bit x source j d = ap₂ (λ (k f : Bool). differs (d && k) f) (part x.q x.r) (part x.p x.a)
  where
    part : (m n : ℕ) → bit (bit_xor (bit_and source m) n) j ≡ differs (bit source j && bit m j) (bit n j)
    part m n = bit_xor_lem j (bit_and source m) n ∙ ap (λ (z : Bool). differs z (bit n j)) (bit_and_lem j source m)

pub mixed_is : (x : Operator) (source old j : ℕ)
    → bit (mixed old (ink_over x source).keep (ink_over x source).flip) j ≡ operator_bit x j (bit source j) (bit old j)
mixed_is x source old j = mixed_bit_lem old (ink_over x source).keep (ink_over x source).flip j ∙ ink_bit x source j (bit old j)

-- ## An operator of an operation and a mask

pub mux_is : (m x y : ℕ) → Muxed m x y (bit_xor x (bit_and (bit_xor x y) m))
mux_is m x y = record {
  bits = λ j.
      bit_xor_lem j x (bit_and (bit_xor x y) m)
      ∙ ap (differs (bit x j)) (bit_and_lem j (bit_xor x y) m ∙ ap (λ (z : Bool). z && bit m j) (bit_xor_lem j x y))
      ∙ mux_bit (bit m j) (bit x j) (bit y j);
}

ones : (j : ℕ) → j < 16 → bit 65535 j ≡ true
unfolding bit
ones = each 16 (bit 65535) (λ i. true) refl

-- an entry of a truth table over a word
pub plane_none : (e : ℕ) → e ≡ 0 → (v : Bool) → e ≡ spread v → Plane v 0
plane_none e z true q = absurd (let n : ⊥ = omega arith in n)
plane_none e z false q = record { bits = λ j h. bit_zero j }

pub plane_all : (e : ℕ) → e ≢ 0 → (v : Bool) → e ≡ spread v → Plane v 65535
plane_all e n true q = record { bits = ones }
plane_all e n false q = absurd (n q)

-- x ^ y ^ x is y
undone : (x y : Bool) → differs (differs x y) x ≡ y
undone true true = refl
undone true false = refl
undone false true = refl
undone false false = refl

all_undone : (n s o b : Bool) → differs (differs (differs (differs (differs n s) o) b) (differs n o)) (differs (differs n s) n) ≡ b
all_undone true true true true = refl
all_undone true true true false = refl
all_undone true true false true = refl
all_undone true true false false = refl
all_undone true false true true = refl
all_undone true false true false = refl
all_undone true false false true = refl
all_undone true false false false = refl
all_undone false true true true = refl
all_undone false true true false = refl
all_undone false true false true = refl
all_undone false true false false = refl
all_undone false false true true = refl
all_undone false false true false = refl
all_undone false false false true = refl
all_undone false false false false = refl

-- of four entries the one for source bit v and old bit d
operator_table : (n s o b v d : Bool)
    → differs (d && differs (v && differs (differs (differs n s) o) b) (differs n o)) (differs (v && differs n s) n) ≡ cond d (cond v b o) (cond v s n)
operator_table n s o b true true = all_undone n s o b
operator_table n s o b true false = undone n s
operator_table n s o b false true = undone n o
operator_table n s o b false false = refl

-- the four entries under a mask, chosen by source and old bit
entry_table : (op : ℕ) (m s d : Bool)
    → cond d (cond s (cond m (op_bit op true true) true) (cond m (op_bit op false true) true))
    (cond s (cond m (op_bit op true false) false) (cond m (op_bit op false false) false))
    ≡ new_bit op m s d
entry_table op true true true = refl
entry_table op true true false = refl
entry_table op true false true = refl
entry_table op true false false = refl
entry_table op false true true = refl
entry_table op false true false = refl
entry_table op false false true = refl
entry_table op false false false = refl

-- p all ones and the others 0: the source passes
passed : (s d : Bool) → differs (d && differs (s && false) false) (differs (s && true) false) ≡ s
passed true true = refl
passed true false = refl
passed false true = refl
passed false false = refl

set_bit : (b : Bool) → differs b true ≡ false → b ≡ true
set_bit true e = refl
set_bit false e = sym e

pub sound_is : (x : Operator) → x.plain ≡ eqb (bit_or (bit_or (bit_or x.a x.q) x.r) (bit_xor x.p 65535)) 0 → SoundOperator x
unfolding operator_bit
sound_is x e = record {
  passes = λ t j h s d.
      let z = or_none (bit_or (bit_or x.a x.q) x.r) (bit_xor x.p 65535) (eqb-true _ 0 (sym e ∙ t)) in
      let y = or_none (bit_or x.a x.q) x.r z.0 in
      let w = or_none x.a x.q y.0 in
      let p : bit x.p j ≡ true = set_bit (bit x.p j) (ap (differs (bit x.p j)) (sym (ones j h)) ∙ sym (bit_xor_lem j x.p 65535) ∙ gone z.1 j) in
      rw (gone w.0 j, gone w.1 j, gone y.1 j, p) (passed s d);
}
  where
    gone : {n : ℕ} → n ≡ 0 → (j : ℕ) → bit n j ≡ false
    gone e j = ap (λ (v : ℕ). bit v j) e ∙ bit_zero j

module _ (op mask : ℕ) (plain : Bool) {A B C D none source old both : ℕ}
    (pa : Plane (bit op 3) A) (pb : Plane (bit op 2) B) (pc : Plane (bit op 1) C) (pd : Plane (bit op 0) D)
    (mn : Muxed mask 0 A none) (ms : Muxed mask 0 B source) (mo : Muxed mask 65535 C old) (mb : Muxed mask 65535 D both) where
  abbrev operator : Operator
  operator = record { a = none; p = bit_xor none source; q = bit_xor (bit_xor (bit_xor none source) old) both; r = bit_xor none old; plain = plain }

  low : {X r : ℕ} (v : Bool) → Plane v X → Muxed mask 0 X r → (j : ℕ) → j < 16 → bit r j ≡ cond (bit mask j) v false
  low v p m j h = m.bits j ∙ ap₂ (cond (bit mask j)) (p.bits j h) (bit_zero j)

  full : {X r : ℕ} (v : Bool) → Plane v X → Muxed mask 65535 X r → (j : ℕ) → j < 16 → bit r j ≡ cond (bit mask j) v true
  full v p m j h = m.bits j ∙ ap₂ (cond (bit mask j)) (p.bits j h) (ones j h)

  pub operator_is : plain
      ≡ eqb (bit_or (bit_or (bit_or none (bit_xor (bit_xor (bit_xor none source) old) both)) (bit_xor none old)) (bit_xor (bit_xor none source) 65535)) 0
      → OperatorOf op mask operator
  unfolding operator_bit
  operator_is e = record {
    bits = λ j h s d.
        let n : Bool = bit none j in
        let x : Bool = bit source j in
        let y : Bool = bit old j in
        let z : Bool = bit both j in
        ap₂ (λ (k f : Bool). differs (d && k) f)
        (ap₂ (λ (k f : Bool). differs (s && k) f)
        (bit_xor_lem j (bit_xor (bit_xor none source) old) both
        ∙ ap (λ (k : Bool). differs k z) (bit_xor_lem j (bit_xor none source) old ∙ ap (λ (k : Bool). differs k y) (bit_xor_lem j none source)))
        (bit_xor_lem j none old))
        (ap (λ (k : Bool). differs (s && k) n) (bit_xor_lem j none source))
        ∙ operator_table n x y z s d
        ∙ ap₂ (cond d) (ap₂ (cond s) (full (bit op 0) pd mb j h) (full (bit op 1) pc mo j h))
        (ap₂ (cond s) (low (bit op 2) pb ms j h) (low (bit op 3) pa mn j h))
        ∙ entry_table op (bit mask j) s d;
    sound = sound_is operator e;
  }

-- ## Two words one after the other

or_digit : (x y : ℕ) → x < 2 → y < 2 → eqb (bit_or x y) 1 ≡ (eqb x 1 || eqb y 1)
or_digit zero zero hx hy = refl
or_digit zero (suc zero) hx hy = refl
or_digit zero (suc (suc y)) hx hy = absurd (not-suc-le-zero (le_of_suc-le-suc (le_of_suc-le-suc hy)))
or_digit (suc zero) zero hx hy = refl
or_digit (suc zero) (suc zero) hx hy = refl
or_digit (suc zero) (suc (suc y)) hx hy = absurd (not-suc-le-zero (le_of_suc-le-suc (le_of_suc-le-suc hy)))
or_digit (suc (suc x)) y hx hy = absurd (not-suc-le-zero (le_of_suc-le-suc (le_of_suc-le-suc hx)))

bit_or_lem : (i a b : ℕ) → bit (bit_or a b) i ≡ (bit a i || bit b i)
unfolding bit
bit_or_lem zero a b = ap (λ (x : ℕ). eqb x 1) (or_mod a b 1) ∙ or_digit (a % 2) (b % 2) (omega arith) (omega arith)
bit_or_lem (suc i) a b = ap (λ (x : ℕ). bit x i) (or_shr a b 1) ∙ bit_or_lem i (a / 2) (b / 2)

or_false : (v : Bool) → (v || false) ≡ v
or_false true = refl
or_false false = refl

bit_shl_low : (x k i : ℕ) → i < k → bit (x * 2 ^ k) i ≡ false
bit_shl_low x k i h = sym (bit_mod k (x * 2 ^ k) i h) ∙ ap (λ (z : ℕ). bit z i) (mul-mod_left x (2 ^ k)) ∙ bit_zero i

pub funnel_is : (x y k : ℕ) → y < 65536 → k < 16 → Funnelled x y k (bit_or (x * 2 ^ k % 65536) (y / 2 ^ (15 - k) / 2))
funnel_is x y k hy hk = record { bits = λ t ht. at t ht }
  where
    at : (t : ℕ) → t < 16 → bit (bit_or (x * 2 ^ k % 65536) (y / 2 ^ (15 - k) / 2)) (15 - t) ≡ bit (y + 65536 * x) (31 - (k + t))
    at t ht =
        bit_or_lem (15 - t) (x * 2 ^ k % 65536) (y / 2 ^ (15 - k) / 2)
        ∙ ap₂ (λ (u v : Bool). u || v) (bit_mod 16 (x * 2 ^ k) (15 - t) (omega arith))
        (bit_shr (y / 2 ^ (15 - k)) 1 (15 - t) ∙ bit_shr y (15 - k) (1 + (15 - t)))
        ∙ go (dec_lt (k + t) 16)
      where
        go : Dec (k + t < 16) → (bit (x * 2 ^ k) (15 - t) || bit y (15 - k + (1 + (15 - t)))) ≡ bit (y + 65536 * x) (31 - (k + t))
        go (yes l) =
            let e : 15 - t ≡ k + (15 - (k + t)) = omega arith in
            let f : 31 - (k + t) - 16 ≡ 15 - (k + t) = omega arith in
            ap₂ (λ (u v : Bool). u || v) (ap (bit (x * 2 ^ k)) e ∙ bit_shl x k (15 - (k + t))) (bit_beyond 16 y (15 - k + (1 + (15 - t))) hy (omega arith))
            ∙ or_false (bit x (15 - (k + t))) ∙ sym (bit_high 16 y x hy (31 - (k + t)) (omega arith) ∙ ap (bit x) f)
        go (no l) =
            let e : 15 - k + (1 + (15 - t)) ≡ 31 - (k + t) = omega arith in
            ap₂ (λ (u v : Bool). u || v) (bit_shl_low x k (15 - t) (omega arith)) (ap (bit y) e)
            ∙ sym (bit_low 16 y x hy (31 - (k + t)) (omega arith))
