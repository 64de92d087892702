-- The three laws of a field: what a write keeps, what it leaves, and that a field is its bits.
use mathlib.Core.Path.{◌≡◌, refl, sym, ap, ◌∙◌, subst}
use mathlib.Core.Logic.{◌⊎◌, inl, inr}
use mathlib.Core.Bool.{false, cond}
use mathlib.Core.List.{List}
use Prim.Native.Nat.{ℕ, ◌+◌, ◌-◌, ◌/◌, ◌%◌, ◌≤◌, ◌<◌}
use native.Mathlib.Omega.{arith}
use native.Mathlib.Decide.{ℕ_discrete}
use lib.Dec.{leb, ltb}
use lib.ListN.{length, get_or, set, length-set}
use lib.Seq.{get_or-set_same, get_or-set_other}
use Rattle.model.specs.Words.{bit, num, within, bit_at, field_at, splice, put_field}
use Rattle.model.proofs.BitLaws.{bit_num, num_cong}
use borrow.Author.Tests.{lt-ltb, le-leb, lt-leb, le-ltb}
use Rattle.model.proofs.Decisions.{both_of, and_false, cond_true, cond_false}

-- ## A byte

splice_in : (x k b v i : ℕ) → i < b → k + b ≤ 8 → bit (splice x k b v) (k + i) ≡ bit v i
unfolding splice
splice_in x k b v i h f =
    bit_num 8 (λ i. cond (within k b i) (bit v (i - k)) (bit x i)) (k + i) (omega arith)
    ∙ cond_true (bit v (k + i - k)) (bit x (k + i)) (both_of (le-leb k (k + i) (omega arith)) (lt-ltb (k + i) (k + b) (omega arith)))
    ∙ (let e : k + i - k ≡ i = omega arith in ap (bit v) e)

splice_out : (x k b v i : ℕ) → i < 8 → (i < k) ⊎ (k + b ≤ i) → bit (splice x k b v) i ≡ bit x i
unfolding splice
splice_out x k b v i h o =
    bit_num 8 (λ i. cond (within k b i) (bit v (i - k)) (bit x i)) i h ∙ cond_false (bit v (i - k)) (bit x i) (off o)
  where
    off : (i < k) ⊎ (k + b ≤ i) → within k b i ≡ false
    off (inl l) = rw (lt-leb k i l) refl
    off (inr l) = and_false (leb k i) (ltb i (k + b)) (le-ltb i (k + b) l)

-- ## A buffer

pub length_put : (s : List ℕ) (n b p : ℕ) → length (put_field s n b p) ≡ length s
unfolding put_field
length_put s n b p = length-set s (n / 8) _

pub put_keeps : (s : List ℕ) (n b p m : ℕ) → n / 8 < length s → n % 8 + b ≤ 8 → (m < n) ⊎ (n + b ≤ m) → bit_at (put_field s n b p) m ≡ bit_at s m
unfolding put_field bit_at
put_keeps s n b p m r f o = go (ℕ_discrete (m / 8) (n / 8))
  where
    B : ℕ
    B = get_or s (n / 8) 0

    side : m / 8 ≡ n / 8 → (m < n) ⊎ (n + b ≤ m) → (m % 8 < n % 8) ⊎ (n % 8 + b ≤ m % 8)
    side e (inl l) = inl (omega arith)
    side e (inr l) = inr (omega arith)

    go : Dec (m / 8 ≡ n / 8) → bit (get_or (set s (n / 8) (splice B (n % 8) b p)) (m / 8) 0) (m % 8) ≡ bit (get_or s (m / 8) 0) (m % 8)
    go (no d) = ap (λ (z : ℕ). bit z (m % 8)) (get_or-set_other s (n / 8) (m / 8) _ 0 d)
    go (yes e) =
        subst (λ (i : ℕ). bit (get_or (set s (n / 8) (splice B (n % 8) b p)) i 0) (m % 8) ≡ bit (get_or s i 0) (m % 8)) (sym e)
        (ap (λ (z : ℕ). bit z (m % 8)) (get_or-set_same s (n / 8) _ 0 r) ∙ splice_out B (n % 8) b p (m % 8) (omega arith) (side e o))

pub put_field_lem : (s : List ℕ) (n b p : ℕ) → n / 8 < length s → n % 8 + b ≤ 8 → field_at (put_field s n b p) n b ≡ num b (bit p)
unfolding put_field field_at
put_field_lem s n b p h f =
    ap (λ (z : ℕ). num b (λ i. bit z (n % 8 + i))) (get_or-set_same s (n / 8) _ 0 h)
    ∙ num_cong b (λ i. bit (splice (get_or s (n / 8) 0) (n % 8) b p) (n % 8 + i)) (bit p) (λ i l. splice_in (get_or s (n / 8) 0) (n % 8) b p i l f)

pub field_bits : (s t : List ℕ) (n b : ℕ) → n % 8 + b ≤ 8 → ((j : ℕ) → j < b → bit_at s (n + j) ≡ bit_at t (n + j)) → field_at s n b ≡ field_at t n b
unfolding field_at bit_at
field_bits s t n b f h = num_cong b (λ i. bit (get_or s (n / 8) 0) (n % 8 + i)) (λ i. bit (get_or t (n / 8) 0) (n % 8 + i)) λ j l.
    let q : (n + j) / 8 ≡ n / 8 = omega arith in
    let r : (n + j) % 8 ≡ n % 8 + j = omega arith in
    rw (← q, ← r) (h j l)
