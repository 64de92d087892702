-- What a pattern laid over the columns of a row makes of its bits: pixel by pixel, and by a table of strips.
use mathlib.Core.Path.{◌≡◌, refl, sym, ap, ◌∙◌}
use mathlib.Core.Bool.{Bool, true, false, cond}
use mathlib.Core.List.{List}
use Prim.Native.Nat.{ℕ, ◌+◌, ◌-◌, ◌*◌, ◌/◌, ◌%◌, ◌^◌, ◌≤◌, ◌<◌}
use native.Mathlib.Omega.{arith}
use native.Mathlib.Nat.{mul-le-mul_left, mul_comm, mul_assoc, add_comm, add-mul-div_right}
use lib.Bits.{bit_xor}
use Rattle.model.specs.Words.{bit}
use Rattle.model.specs.Bitmaps.{Depth}
use Rattle.model.specs.Pixels.{pen_source}
use Rattle.model.specs.Dots.{something}
use Rattle.model.specs.declared.Pen.{Pen}
use Rattle.model.proofs.BitLaws.{num_cong}
use Rattle.model.proofs.Decisions.{split}
use Rattle.model.proofs.PlaceLaws.{depth_bounds}
use Rattle.raster.proofs.BitLaws.{num_self, differs}
use Rattle.raster.proofs.PlaceLaws.{xor_one}
use Rattle.strips.specs.Strokes.{pattern_on}
use Rattle.strips.specs.Stretches.{across}
use Rattle.strips.specs.Strips.{mixed_bit, pen_bit, keep_at, flip_at, per_at, column_of, Table, Woven}
use Rattle.strips.specs.Tables.{index_at, brushed}
use Rattle.strips.proofs.FieldBits.{Bytes}
use Rattle.strips.proofs.PatternLaws.{depth_elim}
use Rattle.strips.proofs.StrokeLaws.{inked}

-- what a pattern makes of bit m, `laid` being its bit over each column of the row
abbrev pub dotted : Pen → (ℕ → Bool) → ℕ → ℕ → ℕ → Bool → Bool
dotted pen laid bits o m v = pen_bit pen (laid (across o m / bits)) ((m - 8 * o) % 16) v

-- ## Pixel by pixel

pub source_inked : (pen : Pen) (on : Bool) (shift j : ℕ) (v : Bool)
    → cond (something (pen_source pen pen.transparent on)) (inked pen (pen_source pen pen.transparent on) shift j v) v
    ≡ pen_bit pen on (shift + j) v
source_inked pen true shift j v = refl
source_inked pen false shift j v = split pen.transparent (λ e. rw e refl) (λ e. rw e refl)

-- ## By a table

-- columns in whole words, and those that are left
pub word_columns : (per bits w r : ℕ) → per * bits ≡ 16 → 0 < bits → (16 * w + r) / bits ≡ w * per + r / bits
word_columns per bits w r e h =
    ap (λ (x : ℕ). x / bits) (ap (λ (x : ℕ). x + r) (mul_comm 16 w ∙ ap (λ (x : ℕ). w * x) (sym e) ∙ sym (mul_assoc w per bits)) ∙ add_comm (w * per * bits) r)
    ∙ add-mul-div_right r (w * per) h ∙ add_comm (r / bits) (w * per)

-- two mixes that make the same of every old bit are the same
xor_same : (k k' f : Bool) → differs k f ≡ differs k' f → k ≡ k'
xor_same true true f e = refl
xor_same false false f e = refl
xor_same true false true e = sym e
xor_same true false false e = e
xor_same false true true e = sym e
xor_same false true false e = e

same_keep : (keep flip keep' flip' j : ℕ) → ((d : Bool) → mixed_bit keep flip j d ≡ mixed_bit keep' flip' j d) → bit keep j ≡ bit keep' j
same_keep keep flip keep' flip' j same =
    xor_same (bit keep j) (bit keep' j) (bit flip j) (same true ∙ ap (differs (bit keep' j)) (sym (same false)))

bytes_same : {a b : ℕ} → a < 2 ^ 8 → b < 2 ^ 8 → ((j : ℕ) → j < 8 → bit a j ≡ bit b j) → a ≡ b
bytes_same {a} {b} h k e = sym (num_self 8 h) ∙ num_cong 8 (bit a) (bit b) e ∙ num_self 8 k

-- the other half of a word
other_half : (k : ℕ) → bit_xor (k % 2) 1 ≡ 1 - k % 2
other_half k = xor_one (k % 2) ∙ omega arith

per_even : (per : ℕ) {b : ℕ} → Depth b → per * b ≡ 16 → per % 2 ≡ 0
per_even per d = depth_elim (λ b. per * b ≡ 16 → per % 2 ≡ 0)
    (λ e. known 16 (omega arith) refl) (λ e. known 8 (omega arith) refl) (λ e. known 4 (omega arith) refl) (λ e. known 2 (omega arith) refl) d
  where
    known : (k : ℕ) → per ≡ k → k % 2 ≡ 0 → per % 2 ≡ 0
    known k e z = ap (λ (n : ℕ). n % 2) e ∙ z

module _ {pen : Pen} {pattern bits : ℕ} {s : List ℕ} (w : Woven pen pattern bits s) (depth : Depth bits) where
  some : 0 < bits
  some = (depth_bounds depth).0

  -- the index of a strip's pixel, by its word
  word_index : (t k j : ℕ) → j < 8 → (t + column_of bits k j) % 16 ≡ ((t + k / 2 * per_at s) % 16 + column_of bits (k % 2) j) % 16
  word_index t k j l =
      let x : 8 * bit_xor k 1 + 7 - j ≡ 16 * (k / 2) + (8 * (1 - k % 2) + 7 - j) = rw (xor_one k) (omega arith) in
      let y : 8 * bit_xor (k % 2) 1 + 7 - j ≡ 8 * (1 - k % 2) + 7 - j = ap (λ (x : ℕ). 8 * x + 7 - j) (other_half k) in
      rw (x, y, word_columns (per_at s) bits (k / 2) (8 * (1 - k % 2) + 7 - j) w.per some)
      (folded t (k / 2 * per_at s) ((8 * (1 - k % 2) + 7 - j) / bits))
    where
      folded : (a b c : ℕ) → (a + (b + c)) % 16 ≡ ((a + b) % 16 + c) % 16
      folded a b c = omega arith

  strip_same : (t k j : ℕ) → t < 16 → k < 16 → j < 8 → (d : Bool)
      → mixed_bit (keep_at s t k) (flip_at s t k) j d
      ≡ mixed_bit (keep_at s ((t + k / 2 * per_at s) % 16) (k % 2)) (flip_at s ((t + k / 2 * per_at s) % 16) (k % 2)) j d
  strip_same t k j a b l d =
      let z : k % 2 % 2 ≡ k % 2 = omega arith in
      w.mixes t k j a b l d
      ∙ rw (word_index t k j l)
      (sym (w.mixes ((t + k / 2 * per_at s) % 16) (k % 2) j (omega arith) (omega arith) l d ∙ rw z refl))

  -- the strips of a pattern can be drawn with
  pub woven_table : Bytes s → Table s
  woven_table b = record {
    length = w.length;
    per = omega (arith, w.per, mul-le-mul_left (per_at s) some);
    even = per_even (per_at s) depth w.per;
    keeps = λ t k p q. bytes_same (b _) (b _) (λ j l. same_keep _ _ _ _ j (strip_same t k j p q l));
    flips = λ t k p q. bytes_same (b _) (b _) (λ j l. strip_same t k j p q l false);
    bare = w.bare;
  }

  -- .. and make of each bit what the pattern says
  pub woven_dotted : (phase o m : ℕ) (v : Bool) → 8 * o ≤ m → brushed s phase o m v ≡ dotted pen (λ c. pattern_on pattern (phase + c)) bits o m v
  unfolding brushed
  woven_dotted phase o m v h =
      let a : across o m ≡ 16 * ((m / 8 - o) / 2) + (8 * (1 - (m / 8 - o) % 2) + 7 - m % 8) = across_byte o m h in
      let x : 8 * bit_xor ((m / 8 - o) % 2) 1 + 7 - m % 8 ≡ 8 * (1 - (m / 8 - o) % 2) + 7 - m % 8
      = ap (λ (x : ℕ). 8 * x + 7 - m % 8) (other_half (m / 8 - o)) in
      w.mixes (index_at s phase ((m / 8 - o) / 2)) ((m / 8 - o) % 2) (m % 8) (omega arith) (omega arith) (omega arith) v
      ∙ rw (
        x,
        within_word o m h,
        a,
        word_columns (per_at s) bits ((m / 8 - o) / 2) (8 * (1 - (m / 8 - o) % 2) + 7 - m % 8) w.per some,
        folded phase ((m / 8 - o) / 2 * per_at s) ((8 * (1 - (m / 8 - o) % 2) + 7 - m % 8) / bits),
      ) refl
    where
      folded : (a b c : ℕ) → ((a + b) % 16 + c) % 16 ≡ (a + (b + c)) % 16
      folded a b c = omega arith

      within_word : (o m : ℕ) → 8 * o ≤ m → 8 * ((m / 8 - o) % 2 % 2) + m % 8 ≡ (m - 8 * o) % 16
      within_word o m h = let e : m - 8 * o ≡ 8 * (m / 8 - o) + m % 8 = omega arith in rw e (omega arith)

      across_byte : (o m : ℕ) → 8 * o ≤ m → across o m ≡ 16 * ((m / 8 - o) / 2) + (8 * (1 - (m / 8 - o) % 2) + 7 - m % 8)
      across_byte o m h =
          let e : m - 8 * o ≡ 8 * (m / 8 - o) + m % 8 = omega arith in
          let q : (m - 8 * o) / 16 ≡ (m / 8 - o) / 2 = omega arith in
          let r : (m - 8 * o) % 16 ≡ 8 * ((m / 8 - o) % 2) + m % 8 = omega arith in
          rw (q, r) (omega arith)
