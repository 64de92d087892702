-- Eight words at once: read, put one after the other, and all together a copied stretch.
use mathlib.Core.Path.{◌≡◌, refl, sym, ap, ap₂, ◌∙◌}
use mathlib.Core.Logic.{◌⊎◌, inl, inr, ◌≢◌}
use mathlib.Core.List.{List}
use Prim.Native.Nat.{ℕ, ◌+◌, ◌-◌, ◌*◌, ◌/◌, ◌%◌, ◌≤◌, ◌<◌}
use native.Mathlib.Omega.{arith}
use native.Mathlib.Decide.{ℕ_discrete, dec_lt}
use lib.ListN.{length, get_or, set, length-set}
use lib.Seq.{get_or-set_same, get_or-set_other}
use Rattle.model.specs.Words.{bit, bit_at, word_at}
use Rattle.raster.specs.Operations.{bit_field}
use Rattle.raster.proofs.BitLaws.{field_bit}
use Rattle.strips.specs.Stretches.{across, Out, Stretched}
use Rattle.strips.proofs.FieldBits.{Bytes, bit_at_byte}
use Rattle.strips.proofs.EdgeLaws.{bits_word, kept_bit}
use Rattle.row_copies.specs.declared.operators.Operator.{Operator}
use Rattle.row_copies.specs.declared.rows.RowCopy.{RowCopy}
use Rattle.row_copies.specs.Rows.{operator_bit, left_bit, copied, RowsFit, PartOf, Eight}
use Rattle.row_copies.specs.Chunks.{Words8, Funnelled8, Mixed8, Put8}
use Rattle.row_copies.proofs.CopyLaws.{peeked_is, fetched_is, Supplies, supplied}

-- ## Words put

-- one more word put
module _ (at : ℕ) (t : List ℕ) (n : ℕ) (old s : List ℕ) {low high : ℕ} (p : Put8 at t n old s) (room : at + 2 * n + 1 < length s)
    (lows : low ≡ bit_field (get_or t n 0) (8 * 0) 8) (highs : high ≡ bit_field (get_or t n 0) (8 * 1) 8) where
  abbrev b : ℕ
  b = at + 2 * n

  new : List ℕ
  new = set (set s b low) (b + 1) high

  kept : (m : ℕ) → (m / 8 ≢ b) × (m / 8 ≢ b + 1) → bit_at new m ≡ bit_at s m
  unfolding new
  kept m (e, f) = kept_bit m s _ (get_or-set_other (set s b low) (b + 1) (m / 8) high 0 f ∙ get_or-set_other s b (m / 8) low 0 e)

  out : (m : ℕ) → (m < 8 * at) ⊎ (8 * at + 16 * (n + 1) ≤ m) → (m / 8 ≢ b) × (m / 8 ≢ b + 1)
  out m (inl h) = ((λ e. omega arith), (λ e. omega arith))
  out m (inr h) = ((λ e. omega arith), (λ e. omega arith))

  past : (m : ℕ) → (m < 8 * at) ⊎ (8 * at + 16 * (n + 1) ≤ m) → (m < 8 * at) ⊎ (8 * at + 16 * n ≤ m)
  past m (inl h) = inl h
  past m (inr h) = inr (omega arith)

  byte_low : get_or new b 0 ≡ low
  unfolding new
  byte_low = get_or-set_other (set s b low) (b + 1) b high 0 (λ e. omega arith) ∙ get_or-set_same s b low 0 (omega arith)

  byte_high : get_or new (b + 1) 0 ≡ high
  unfolding new
  byte_high = get_or-set_same (set s b low) (b + 1) high 0 (rw (length-set s b low) room)

  this : (j : ℕ) → j < 16 → Dec (j < 8) → bit_at new (8 * b + j) ≡ bit (get_or t n 0) j
  this j h (yes l) =
      bit_at_byte new b j l ∙ ap (λ (v : ℕ). bit v j) (byte_low ∙ lows) ∙ field_bit (get_or t n 0) (8 * 0) 8 j l
      ∙ ap (bit (get_or t n 0)) (let f : 8 * 0 + j ≡ j = omega arith in f)
  this j h (no l) =
      let g : 8 * b + j ≡ 8 * (b + 1) + (j - 8) = omega arith in
      let f : 8 * 1 + (j - 8) ≡ j = omega arith in
      ap (bit_at new) g ∙ bit_at_byte new (b + 1) (j - 8) (omega arith) ∙ ap (λ (v : ℕ). bit v (j - 8)) (byte_high ∙ highs)
      ∙ field_bit (get_or t n 0) (8 * 1) 8 (j - 8) (omega arith) ∙ ap (bit (get_or t n 0)) f

  at_bit : (i j : ℕ) → i < n + 1 → j < 16 → Dec (i ≡ n) → bit_at new (8 * (at + 2 * i) + j) ≡ bit (get_or t i 0) j
  at_bit i j l h (yes e) = rw e (this j h (dec_lt j 8))
  at_bit i j l h (no e) = kept (8 * (at + 2 * i) + j) ((λ f. omega arith), (λ f. omega arith)) ∙ p.inside i j (omega arith) h

  pub put8_next : Put8 at t (n + 1) old (set (set s (at + 2 * n) low) (at + 2 * n + 1) high)
  unfolding new
  put8_next = record {
    length = length-set (set s b low) (b + 1) high ∙ length-set s b low ∙ p.length;
    inside = λ i j l h. at_bit i j l h (ℕ_discrete i n);
    outside = λ m o. kept m (out m o) ∙ p.outside m (past m o);
  }

-- ## A chunk

word_lt : (s : List ℕ) (at : ℕ) → Bytes s → word_at s at < 65536
word_lt s at b = omega (arith, b at, b (at + 1))

-- eight words read, funnelled, mixed and put are a copied stretch
module _ (x : Operator) (c : RowCopy) (w : ℕ) (src old : List ℕ) (bs : Bytes src) (bo : Bytes old) (room : RowsFit c old src) (eight : Eight c w)
    {xs ys ss os ts new : List ℕ}
    (wx : Words8 src (c.base + 2 * ((16 * w + c.from - c.to) / 16)) 8 xs) (wy : Words8 src (c.base + 2 * ((16 * w + c.from - c.to) / 16) + 2) 8 ys)
    (js : Funnelled8 xs ys ((16 * w + c.from - c.to) % 16) 8 ss) (wo : Words8 old (c.row + 2 * w) 8 os) (mx : Mixed8 ss os x 8 ts)
    (put : Put8 (c.row + 2 * w) ts 8 old new) where
  gives : (i : ℕ) → i < 8 → Supplies c (w + i) 0 16 src (get_or ss i 0)
  gives i h =
      let p : ℕ = 16 * w + c.from - c.to in
      let z : ℕ = 16 * (w + i) + 16 + c.from - c.to in
      let u = eight.from in
      let q : z / 16 ≡ p / 16 + i + 1 = omega arith in
      let r : z % 16 ≡ p % 16 = omega arith in
      let ex : c.base + 2 * (p / 16) + 2 * i ≡ c.base + 2 * (z / 16 - 1) = omega arith in
      let ey : c.base + 2 * (p / 16) + 2 + 2 * i ≡ c.base + 2 * (z / 16 + 1 - 1) = omega arith in
      supplied c src (part i h) room.source
      (fetched_is src c.base z (rw (wy.words i h) (word_lt src (c.base + 2 * (p / 16) + 2 + 2 * i) bs))
      (peeked_is src c.base (z / 16) bs (omega arith) (wx.words i h ∙ ap (word_at src) ex))
      (peeked_is src c.base (z / 16 + 1) bs (omega arith) (wy.words i h ∙ ap (word_at src) ey)) (rw r (js.words i h)))
    where
      part : (i : ℕ) → i < 8 → PartOf c (w + i) 0 16
      part i h = record { order = omega arith; wide = omega arith; from = omega (arith, eight.from); most = omega (arith, eight.most) }

  pub chunk_copied : Stretched (copied x c src) c.row (16 * w) (16 * w + 128) old new
  unfolding copied
  chunk_copied = record {
    length = put.length;
    inside = λ m i.
        let o : ℕ = c.row in
        let k : ℕ = (m - 8 * c.row) / 16 - w in
        let j : ℕ = (m - 8 * c.row) % 16 in
        let q : (m - 8 * c.row) / 16 ≡ w + k = omega (arith, i.from) in
        let l : k < 8 = omega (arith, i.to) in
        let h : j < 16 = omega arith in
        let e : 8 * (c.row + 2 * w + 2 * k) + j ≡ m = omega (arith, i.row) in
        let a : across c.row m ≡ 16 * (w + k) + (15 - j) = ap (λ (b : ℕ). 16 * b + (15 - j)) q in
        let z : 15 - (15 - j) ≡ j = omega arith in
        ap (bit_at new) (sym e) ∙ put.inside k j l h ∙ mx.bits k l j
        ∙ ap₂ (operator_bit x j) (ap (bit (get_or ss k 0)) (sym z) ∙ (gives k l).bits (15 - j) (omega arith) (omega arith)
        ∙ ap (λ (b : ℕ). left_bit src c.base (b + c.from - c.to)) (sym a))
        (ap (λ (v : ℕ). bit v j) (wo.words k l) ∙ sym (bits_word old (c.row + 2 * w + 2 * k) _ refl (bo (c.row + 2 * w + 2 * k)) j h) ∙ ap (bit_at old) e);
    outside = λ m i. put.outside m (far m i);
  }
    where
      far : (m : ℕ) → Out c.row (16 * w) (16 * w + 128) m → (m < 8 * (c.row + 2 * w)) ⊎ (8 * (c.row + 2 * w) + 16 * 8 ≤ m)
      far m (inl i) = inl (omega arith)
      far m (inr (inl i)) = inl (omega arith)
      far m (inr (inr i)) = go (dec_lt m (8 * c.row))
        where
          go : Dec (m < 8 * c.row) → (m < 8 * (c.row + 2 * w)) ⊎ (8 * (c.row + 2 * w) + 16 * 8 ≤ m)
          go (yes l) = inl (omega arith)
          go (no l) = inr (omega arith)
