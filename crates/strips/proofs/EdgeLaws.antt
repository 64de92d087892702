-- Covers of a word, two bytes as a word, and a word mixed under a cover.
use Rattle.std.specs.Int.{w16, to_le_bytes}
use mathlib.Core.Path.{◌≡◌, refl, sym, ap, ap₂, ◌∙◌}
use mathlib.Core.Logic.{◌⊎◌, inl, inr}
use mathlib.Core.Bool.{Bool, true, false, cond, ◌&&◌}
use mathlib.Core.List.{List}
use Prim.Native.Nat.{ℕ, ◌+◌, ◌-◌, ◌*◌, ◌/◌, ◌%◌, ◌^◌, ◌≤◌, ◌<◌}
use native.Mathlib.Omega.{arith}
use native.Mathlib.Decide.{dec_lt}
use native.Mathlib.Nat.{lt_of_le_of_lt}
use borrow.Author.Tests.{le-leb, lt-leb}
use lib.Bits.{bit_and, bit_xor, xor_lt, and_le_r}
use lib.Dec.{leb}
use lib.ListN.{length, get_or, set, length-set}
use lib.Seq.{get_or-set_same, get_or-set_other}
use Rattle.model.specs.Words.{bit, bit_at}
use Rattle.model.proofs.BitLaws.{bit_shr}
use Rattle.raster.proofs.BitLaws.{bit_and_lem, bit_xor_lem, bit_mod, differs, mux_bit}
use Rattle.raster.proofs.Table.{tabulate, each}
use Rattle.strips.specs.Strips.{mixed, mixed_bit}
use Rattle.strips.specs.Covers.{Covers, Edged}
use Rattle.strips.specs.declared.inks.Ink.{Ink}

-- ## Covers

-- a cover's bit i, from bit k from the left on
lead_bit : (k i : ℕ) → k < 16 → i < 16 → bit (65535 / 2 ^ k) i ≡ leb (i + k + 1) 16
unfolding bit
lead_bit k i h l =
    each 16 (bit (65535 / 2 ^ k)) (λ i. leb (i + k + 1) 16)
    (each 16 (λ k. tabulate 16 (bit (65535 / 2 ^ k))) (λ k. tabulate 16 (λ i. leb (i + k + 1) 16)) refl k h) i l

pub lead_covers : (k : ℕ) → k < 16 → Covers k 16 (65535 / 2 ^ k)
lead_covers k h = record {
  on = λ i l a b. lead_bit k i h l ∙ le-leb (i + k + 1) 16 (omega arith);
  off = λ i l o. lead_bit k i h l ∙ lt-leb (i + k + 1) 16 (past i l o);
}
  where
    past : (i : ℕ) → i < 16 → (i + 16 < 16) ⊎ (16 ≤ i + k) → 16 < i + k + 1
    past i l (inl o) = omega arith
    past i l (inr o) = omega arith

-- .. up to bit k from the left
tail_bit : (k i : ℕ) → k < 16 → i < 16 → bit (65535 * 2 ^ (15 - k) % 65536) i ≡ leb 15 (i + k)
unfolding bit
tail_bit k i h l =
    each 16 (bit (65535 * 2 ^ (15 - k) % 65536)) (λ i. leb 15 (i + k))
    (each 16 (λ k. tabulate 16 (bit (65535 * 2 ^ (15 - k) % 65536))) (λ k. tabulate 16 (λ i. leb 15 (i + k))) refl k h) i l

pub tail_covers : (k : ℕ) → k < 16 → Covers 0 (k + 1) (65535 * 2 ^ (15 - k) % 65536)
tail_covers k h = record {
  on = λ i l a b. tail_bit k i h l ∙ le-leb 15 (i + k) (omega arith);
  off = λ i l o. tail_bit k i h l ∙ lt-leb 15 (i + k) (past i l o);
}
  where
    past : (i : ℕ) → i < 16 → (i + (k + 1) < 16) ⊎ (16 ≤ i + 0) → i + k < 15
    past i l (inl o) = omega arith
    past i l (inr o) = omega arith

-- where both are 1
pub both_cover : {lead tail a b : ℕ} → Covers lead 16 a → Covers 0 tail b → Covers lead tail (bit_and a b)
both_cover {lead} {tail} {a} {b} p q = record {
  on = λ i l g h. bit_and_lem i a b ∙ ap₂ (λ (x y : Bool). x && y) (p.on i l (omega arith) h) (q.on i l g (omega arith));
  off = λ i l o. bit_and_lem i a b ∙ gone i l o;
}
  where
    none : (x : Bool) → (x && false) ≡ false
    none true = refl
    none false = refl

    gone : (i : ℕ) → i < 16 → (i + tail < 16) ⊎ (16 ≤ i + lead) → (bit a i && bit b i) ≡ false
    gone i l (inl o) = ap (λ (y : Bool). bit a i && y) (q.off i l (inl o)) ∙ none (bit a i)
    gone i l (inr o) = ap (λ (x : Bool). x && bit b i) (p.off i l (inr o))

-- ## Words

pub kept_bit : (m : ℕ) (old new : List ℕ) → get_or new (m / 8) 0 ≡ get_or old (m / 8) 0 → bit_at new m ≡ bit_at old m
unfolding bit_at
kept_bit m old new e = ap (λ (v : ℕ). bit v (m % 8)) e

-- a bit of a word of two bytes is one of theirs
pub word_bit_lem : (l : List ℕ) (at i : ℕ) → get_or l at 0 < 256 → i < 16
    → bit (get_or l at 0 + 256 * get_or l (at + 1) 0) i ≡ bit (get_or l (at + i / 8) 0) (i % 8)
word_bit_lem l at i h k = go (dec_lt i 8)
  where
    go : Dec (i < 8) → bit (get_or l at 0 + 256 * get_or l (at + 1) 0) i ≡ bit (get_or l (at + i / 8) 0) (i % 8)
    go (yes p) =
        let z : (get_or l at 0 + 256 * get_or l (at + 1) 0) % 2 ^ 8 ≡ get_or l at 0 = omega arith in
        let q : at + i / 8 ≡ at = omega arith in
        let r : i % 8 ≡ i = omega arith in
        rw (q, r) (sym (bit_mod 8 (get_or l at 0 + 256 * get_or l (at + 1) 0) i p) ∙ ap (λ (x : ℕ). bit x i) z)
    go (no p) =
        let z : (get_or l at 0 + 256 * get_or l (at + 1) 0) / 2 ^ 8 ≡ get_or l (at + 1) 0 = omega arith in
        let q : at + i / 8 ≡ at + 1 = omega arith in
        let r : 8 + i % 8 ≡ i = omega arith in
        rw q (ap (bit (get_or l at 0 + 256 * get_or l (at + 1) 0)) (sym r) ∙ sym (bit_shr (get_or l at 0 + 256 * get_or l (at + 1) 0) 8 (i % 8))
        ∙ ap (λ (x : ℕ). bit x (i % 8)) z)

-- .. in a buffer
pub bits_word : (l : List ℕ) (at w : ℕ) → get_or l at 0 + 256 * get_or l (at + 1) 0 ≡ w → get_or l at 0 < 256
    → (i : ℕ) → i < 16 → bit_at l (8 * at + i) ≡ bit w i
unfolding bit_at
bits_word l at w e h i k =
    let q : (8 * at + i) / 8 ≡ at + i / 8 = omega arith in
    let r : (8 * at + i) % 8 ≡ i % 8 = omega arith in
    rw (q, r, ← e) (sym (word_bit_lem l at i h k))

pub mixed_bit_lem : (old keep flip j : ℕ) → bit (mixed old keep flip) j ≡ mixed_bit keep flip j (bit old j)
mixed_bit_lem old keep flip j = bit_xor_lem j (bit_and old keep) flip ∙ ap (λ (v : Bool). differs v (bit flip j)) (bit_and_lem j old keep)

-- bit i of old ^ ((old ^ new) & cover), where new is old mixed
pub over_bit : (old keep flip cover i : ℕ) → bit (bit_xor old (bit_and (bit_xor old (mixed old keep flip)) cover)) i
    ≡ cond (bit cover i) (mixed_bit keep flip i (bit old i)) (bit old i)
over_bit old keep flip cover i =
    bit_xor_lem i old (bit_and (bit_xor old (mixed old keep flip)) cover)
    ∙ ap (differs (bit old i))
    (bit_and_lem i (bit_xor old (mixed old keep flip)) cover
    ∙ ap (λ (z : Bool). z && bit cover i)
    (bit_xor_lem i old (mixed old keep flip)
    ∙ ap (differs (bit old i)) (mixed_bit_lem old keep flip i)))
    ∙ mux_bit (bit cover i) (bit old i) (mixed_bit keep flip i (bit old i))

-- the word written is one of 16 bits
over_lt : (old keep flip cover : ℕ) → old < 2 ^ 16 → cover < 2 ^ 16 → bit_xor old (bit_and (bit_xor old (mixed old keep flip)) cover) < 2 ^ 16
over_lt old keep flip cover h k =
    xor_lt 16 old (bit_and (bit_xor old (mixed old keep flip)) cover) h (lt_of_le_of_lt (and_le_r (bit_xor old (mixed old keep flip)) cover) k)

-- the word at byte `at` written anew
module _ (at : ℕ) (ink : Ink) (cover : ℕ) (s : List ℕ) (old : ℕ) where
  over : ℕ
  over = bit_xor old (bit_and (bit_xor old (mixed old ink.keep ink.flip)) cover)

  written : ℕ → ℕ → List ℕ
  written low high = set (set s at low) (at + 1) high

  edged : (low high : ℕ) → at + 2 ≤ length s → get_or s at 0 < 256 → get_or s at 0 + 256 * get_or s (at + 1) 0 ≡ old → low < 256
      → low + 256 * high ≡ over → Edged at ink cover s (written low high)
  unfolding over written
  edged low high h b e small whole = record {
    length = length-set (set s at low) (at + 1) high ∙ length-set s at low;
    inside = λ i l.
        bits_word (written low high) at over (rw (first, second) whole) (rw first small) i l ∙ over_bit old ink.keep ink.flip cover i
        ∙ ap (λ (x : Bool). cond (bit cover i) (mixed_bit ink.keep ink.flip i x) x) (sym (bits_word s at old e b i l));
    outside = λ m o. kept_bit m s _
        (get_or-set_other (set s at low) (at + 1) (m / 8) high 0 (beyond m o) ∙ get_or-set_other s at (m / 8) low 0 (before m o));
  }
    where
      first : get_or (set (set s at low) (at + 1) high) at 0 ≡ low
      first = get_or-set_other (set s at low) (at + 1) at high 0 (λ e. omega arith) ∙ get_or-set_same s at low 0 (omega arith)

      second : get_or (set (set s at low) (at + 1) high) (at + 1) 0 ≡ high
      second = get_or-set_same (set s at low) (at + 1) high 0 (rw (length-set s at low) (omega arith))

      before : (m : ℕ) → (m < 8 * at) ⊎ (8 * at + 16 ≤ m) → m / 8 ≡ at → ⊥
      before m (inl o) z = omega arith
      before m (inr o) z = omega arith

      beyond : (m : ℕ) → (m < 8 * at) ⊎ (8 * at + 16 ≤ m) → m / 8 ≡ at + 1 → ⊥
      beyond m (inl o) z = omega arith
      beyond m (inr o) z = omega arith

  pub word_edged : {bytes : List ℕ} → at + 2 ≤ length s → get_or s at 0 < 256 → get_or s at 0 + 256 * get_or s (at + 1) 0 ≡ old
      → old < 2 ^ 16 → cover < 2 ^ 16 → bytes ≡ to_le_bytes w16 (bit_xor old (bit_and (bit_xor old (mixed old ink.keep ink.flip)) cover))
      → Edged at ink cover s (set (set s at (get_or bytes 0 0)) (at + 1) (get_or bytes 1 0))
  unfolding over written
  word_edged h b e k l w =
      let m : over < 2 ^ 16 = over_lt old ink.keep ink.flip cover k l in
      rw w (edged (over % 256) (over / 256 % 256) h b e (omega arith) (omega arith))
