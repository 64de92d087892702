-- Laws from the definitions to the forms that code has: the position's patterns added with wrapping; a pixel blended in its byte.
use mathlib.Core.Path.{◌≡◌, refl, ap, ap₂, ◌∙◌}
use mathlib.Core.Bool.{Bool, cond}
use Prim.Native.Nat.{ℕ, suc, ◌+◌, ◌-◌, ◌*◌, ◌%◌, ◌≤◌, ◌<◌}
use native.Mathlib.Omega.{arith}
use lib.Dec.{leb, ltb}
use lib.IntN.{sub_ℕ, ◌+ℤ◌}
use Rattle.model.specs.Words.{bit, num, within, splice}
use Rattle.model.specs.Coordinates.{coord, wrap}
use Rattle.model.specs.Operations.{new_bit}
use Rattle.model.specs.Pixels.{Pen, Source, source_bit, blend}
use borrow.Author.Tests.{ltb-true, ltb-false, leb-true}
use Rattle.model.proofs.Decisions.{split, both_true}
use Rattle.model.proofs.BitLaws.{bit_num, num_cong}

-- ## "The position wraps at 16 bits": wrapping add on the patterns

wrap_sub : (a b : ℕ) → a < 65536 → b ≤ 65536 → wrap (sub_ℕ a b) ≡ (a + (65536 - b)) % 65536
wrap_sub a b h k = split (ltb a b)
    (λ e. let l = ltb-true a b e in rw e (omega arith))
    (λ e. let l = ltb-false a b e in rw e (omega arith))

pub wrap_add : (p d : ℕ) → p < 65536 → d < 65536 → wrap (coord p +ℤ coord d) ≡ (p + d) % 65536
wrap_add p d h k = split (ltb p 32768)
    (λ e. split (ltb d 32768)
    (λ f. rw (e, f) refl)
    (λ f. let l = ltb-false d 32768 f in rw (e, f) (wrap_sub p (suc (65535 - d)) h (omega arith) ∙ ap (λ (z : ℕ). z % 65536) (omega arith))))
    (λ e. let m = ltb-false p 32768 e in split (ltb d 32768)
    (λ f. rw (e, f) (wrap_sub d (suc (65535 - p)) k (omega arith) ∙ ap (λ (z : ℕ). z % 65536) (omega arith)))
    (λ f. let l = ltb-false d 32768 f in rw (e, f) (omega arith)))

-- ## A pixel blended in its byte

-- a pixel's b bits from bit k of a byte on, its word's shift being 8 h + k: bit by bit, as `raster` has it
pub blend_byte : (x k h b : ℕ) (ink : Pen) (s : Source)
    → splice x k b (blend b (8 * h + k) ink s (num b (λ i. bit x (k + i))))
    ≡ num 8 (λ i. cond (within k b i) (new_bit ink.op (bit ink.mask (8 * h + i)) (source_bit s (8 * h + k) (i - k)) (bit x i)) (bit x i))
unfolding splice blend
blend_byte x k h b ink s = num_cong 8 _ _ λ i l. split (within k b i)
    (λ e. rw e (let w = both_true (leb k i) (ltb i (k + b)) e in here i (leb-true k i w.0) (ltb-true i (k + b) w.1)))
    (λ e. rw e refl)
  where
    old : ℕ → Bool
    old i = bit (num b (λ i. bit x (k + i))) i

    here : (i : ℕ) → k ≤ i → i < k + b
        → bit (num b (λ i. new_bit ink.op (bit ink.mask (8 * h + k + i)) (source_bit s (8 * h + k) i) (bit (num b (λ i. bit x (k + i))) i))) (i - k)
        ≡ new_bit ink.op (bit ink.mask (8 * h + i)) (source_bit s (8 * h + k) (i - k)) (bit x i)
    here i l m =
        let c : i - k < b = omega arith in
        let u : 8 * h + k + (i - k) ≡ 8 * h + i = omega arith in
        let v : k + (i - k) ≡ i = omega arith in
        bit_num b (λ i. new_bit ink.op (bit ink.mask (8 * h + k + i)) (source_bit s (8 * h + k) i) (bit (num b (λ i. bit x (k + i))) i)) (i - k) c
        ∙ ap₂ (λ (y z : Bool). new_bit ink.op y (source_bit s (8 * h + k) (i - k)) z)
        (ap (bit ink.mask) u) (bit_num b (λ i. bit x (k + i)) (i - k) c ∙ ap (bit x) v)
