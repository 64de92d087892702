-- Bits of rows: fetched from a source, put into a target, one part after the other, in two buffers or in one.
use mathlib.Core.Path.{◌≡◌, refl, sym, ap, ◌∙◌}
use mathlib.Core.Logic.{◌⊎◌, inl, inr}
use mathlib.Core.Bool.{Bool, true, false}
use mathlib.Core.List.{List}
use Prim.Native.Nat.{ℕ, ◌+◌, ◌-◌, ◌*◌, ◌/◌, ◌%◌, ◌≤◌, ◌<◌}
use native.Mathlib.Omega.{arith}
use native.Mathlib.Decide.{dec_lt}
use lib.ListN.{length}
use denote.Ref.{Bor}
use Rattle.std.specs.Prelude.{Option, Some, None}
use Rattle.model.specs.Words.{bit, bit_at, word_at}
use Rattle.strips.specs.Covers.{Covers, Edged}
use Rattle.strips.specs.Stretches.{across, Out, Stretched}
use Rattle.strips.specs.declared.inks.Ink.{Ink}
use Rattle.strips.proofs.FieldBits.{Bytes}
use Rattle.strips.proofs.BitParts.{bit_low, bit_high}
use Rattle.strips.proofs.EdgeLaws.{bits_word}
use Rattle.strips.proofs.MixLaws.{edged_stretched, stretched_before}
use Rattle.strips.proofs.StretchLaws.{stretched_then, stretched_by}
use Rattle.row_copies.specs.declared.operators.Operator.{Operator}
use Rattle.row_copies.specs.declared.rows.RowCopy.{RowCopy}
use Rattle.row_copies.specs.Rows.{ink_over, operator_bit, left_bit, copied, Apart, Forward, Backward, source_in, ReadFirst, PartOf}
use Rattle.row_copies.specs.Chunks.{Funnelled, Peeked, FetchedBits}
use Rattle.row_copies.proofs.WordLaws.{ink_bit}

-- ## Read

pub peeked_is : (s : List ℕ) (o k : ℕ) {r : ℕ} → Bytes s → 1 ≤ k → r ≡ word_at s (o + 2 * (k - 1)) → Peeked s o k r
unfolding left_bit
peeked_is s o k b p e = record {
  bits = λ t h _ l.
      let q : (16 * (k - 1) + t) / 16 ≡ k - 1 = omega arith in
      let m : (16 * (k - 1) + t) % 16 ≡ t = omega arith in
      let z : 8 * (o + 2 * (k - 1)) + (15 - t) ≡ 8 * o + 16 * (k - 1) + (15 - t) = omega arith in
      ap (λ (v : ℕ). bit v (15 - t)) e ∙ sym (bits_word s (o + 2 * (k - 1)) _ refl (b (o + 2 * (k - 1))) (15 - t) (omega arith))
      ∙ ap (bit_at s) z ∙ rw (q, m) refl;
}

pub fetched_is : (s : List ℕ) (o z : ℕ) {x y r : ℕ} → y < 65536 → Peeked s o (z / 16) x → Peeked s o (z / 16 + 1) y → Funnelled x y (z % 16) r
    → FetchedBits s o z r
fetched_is s o z {x} {y} {r} hy px py j = record { bits = λ t h a l. j.bits t h ∙ go t h a l (dec_lt (z % 16 + t) 16) }
  where
    go : (t : ℕ) → t < 16 → 16 ≤ z + t → o + 2 * ((z + t) / 16) ≤ length s → Dec (z % 16 + t < 16)
        → bit (y + 65536 * x) (31 - (z % 16 + t)) ≡ left_bit s o (z + t - 16)
    go t h a l (yes q) =
        let e : 31 - (z % 16 + t) - 16 ≡ 15 - (z % 16 + t) = omega arith in
        let f : 16 * (z / 16 - 1) + (z % 16 + t) ≡ z + t - 16 = omega arith in
        let d : (z + t) / 16 ≡ z / 16 = omega arith in
        bit_high 16 y x hy (31 - (z % 16 + t)) (omega arith) ∙ ap (bit x) e
        ∙ px.bits (z % 16 + t) q (omega arith) (omega arith) ∙ ap (left_bit s o) f
    go t h a l (no q) =
        let e : 31 - (z % 16 + t) ≡ 15 - (z % 16 + t - 16) = omega arith in
        let f : 16 * (z / 16 + 1 - 1) + (z % 16 + t - 16) ≡ z + t - 16 = omega arith in
        let d : (z + t) / 16 ≡ z / 16 + 1 = omega arith in
        bit_low 16 y x hy (31 - (z % 16 + t)) (omega arith) ∙ ap (bit y) e
        ∙ py.bits (z % 16 + t - 16) (omega arith) (omega arith) (omega arith) ∙ ap (left_bit s o) f

-- ## Put

-- the source's bits that a part of a word takes
pub record Supplies (c : RowCopy) (word lead tail : ℕ) (s : List ℕ) (r : ℕ) : Type 0 where
  pub bits : (t : ℕ) → lead ≤ t → t < tail → bit r (15 - t) ≡ left_bit s c.base (16 * word + t + c.from - c.to)

pub supplied : (c : RowCopy) {word lead tail : ℕ} (s : List ℕ) {r : ℕ} → PartOf c word lead tail → c.base + 2 * ((c.from + c.count + 15) / 16) ≤ length s
    → FetchedBits s c.base (16 * word + 16 + c.from - c.to) r → Supplies c word lead tail s r
supplied c {word} {lead} {tail} s q l f = record {
  bits = λ t a b.
      let e : 16 * word + 16 + c.from - c.to + t - 16 ≡ 16 * word + t + c.from - c.to = omega (arith, q.from) in
      let d : (16 * word + 16 + c.from - c.to + t) / 16 ≤ (c.from + c.count + 15) / 16 = omega (arith, q.from, q.most) in
      f.bits t (omega (arith, q.wide)) (omega (arith, q.from)) (omega arith) ∙ ap (left_bit s c.base) e;
}

-- a part of a word, put under its cover, is copied
pub word_copied : (x : Operator) (c : RowCopy) (word lead tail : ℕ) (s : List ℕ) {cover source : ℕ} {ink : Ink} {old new : List ℕ} → PartOf c word lead tail
    → Covers lead tail cover → ink ≡ ink_over x source → Edged (c.row + 2 * word) ink cover old new → Supplies c word lead tail s source
    → Stretched (copied x c s) c.row (16 * word + lead) (16 * word + tail) old new
unfolding copied
word_copied x c word lead tail s {cover} {source} q v e put gives =
    edged_stretched (copied x c s) c.row word lead tail cover (ink_over x source) (rw e at put) v q.wide λ i h a b d.
    let z : 15 - (15 - i) ≡ i = omega arith in
    let j : (8 * (c.row + 2 * word) + i - 8 * c.row) / 16 ≡ word = omega arith in
    let k : (8 * (c.row + 2 * word) + i - 8 * c.row) % 16 ≡ i = omega arith in
    ink_bit x source i d
    ∙ ap (λ (b : Bool). operator_bit x i b d) (ap (bit source) (sym z) ∙ gives.bits (15 - i) (omega arith) (omega arith))
    ∙ rw (j, k) refl

-- ## One after the other

-- the same bounds, otherwise worked out
pub stretched_ends : {g : ℕ → Bool → Bool} {o lo hi : ℕ} {s t : List ℕ} (lo' hi' : ℕ) → lo ≡ lo' → hi ≡ hi' → Stretched g o lo hi s t
    → Stretched g o lo' hi' s t
stretched_ends {g} {o} {lo} {hi} {s} {t} lo' hi' p q d = rw (← p, ← q) d

-- ## In one buffer

-- where bit k of a row lies
abbrev spot : ℕ → ℕ → ℕ
spot o k = 8 * o + 16 * (k / 16) + (15 - k % 16)

across_spot : (o k : ℕ) → across o (spot o k) ≡ k
across_spot o k =
    let e : spot o k - 8 * o ≡ 16 * (k / 16) + (15 - k % 16) = omega arith in
    let q : (16 * (k / 16) + (15 - k % 16)) / 16 ≡ k / 16 = omega arith in
    let r : (16 * (k / 16) + (15 - k % 16)) % 16 ≡ 15 - k % 16 = omega arith in
    rw (e, q, r) (let z : 16 * (k / 16) + (15 - (15 - k % 16)) ≡ k = omega arith in z)

-- a word behind the stretch
beyond : (o so k e : ℕ) → o + 2 * e ≤ so + 2 * (k / 16) → 16 * e ≤ across o (spot so k)
beyond o so k e h =
    let q : e ≤ (spot so k - 8 * o) / 16 = omega arith in
    omega arith

-- .. before it
before : (o so k f : ℕ) → so + 2 * (k / 16) + 2 ≤ o + 2 * f → (spot so k < 8 * o) ⊎ (across o (spot so k) < 16 * f)
before o so k f h = go (dec_lt (spot so k) (8 * o))
  where
    go : Dec (spot so k < 8 * o) → (spot so k < 8 * o) ⊎ (across o (spot so k) < 16 * f)
    go (yes l) = inl l
    go (no l) =
        let q : (spot so k - 8 * o) / 16 < f = omega arith in
        inr (omega arith)

apart_out : (c : RowCopy) (lo hi k : ℕ) → Apart c → c.from ≤ k → k < c.from + c.count → c.to ≤ lo → hi ≤ c.to + c.count
    → Out c.row lo hi (spot c.base k)
apart_out c lo hi k (inl a) f l g h =
    let q : k / 16 < (c.from + c.count + 15) / 16 = omega arith in
    go (before c.row c.base k (c.to / 16) (omega arith))
  where
    go : (spot c.base k < 8 * c.row) ⊎ (across c.row (spot c.base k) < 16 * (c.to / 16)) → Out c.row lo hi (spot c.base k)
    go (inl p) = inl p
    go (inr p) = let q : 16 * (c.to / 16) ≤ lo = omega arith in inr (inl (omega arith))
apart_out c lo hi k (inr a) f l g h =
    let q : c.from / 16 ≤ k / 16 = omega arith in
    let e : hi ≤ 16 * ((c.to + c.count + 15) / 16) = omega arith in
    inr (inr (omega (arith, beyond c.row c.base k ((c.to + c.count + 15) / 16) (omega arith))))

left_kept : {g : ℕ → Bool → Bool} {o lo hi : ℕ} {s t : List ℕ} (so k : ℕ) → Stretched g o lo hi s t → Out o lo hi (spot so k)
    → left_bit t so k ≡ left_bit s so k
unfolding left_bit
left_kept so k p i = p.outside (spot so k) i

-- what is read behind the part written, or before it
forward_out : (c : RowCopy) (lo mid k : ℕ) → Forward c → c.to ≤ lo → lo ≤ mid → mid ≤ k → k < c.to + c.count
    → Out c.row lo mid (spot c.base (k + c.from - c.to))
forward_out c lo mid k (inl (e, f)) a b d g = inr (inr (rw (e, across_spot c.row (k + c.from - c.to)) (omega arith)))
forward_out c lo mid k (inr a) b d e g = apart_out c lo mid (k + c.from - c.to) a (omega arith) (omega arith) b (omega arith)

backward_out : (c : RowCopy) (mid hi k : ℕ) → Backward c → c.to ≤ k → k < mid → mid ≤ hi → hi ≤ c.to + c.count
    → Out c.row mid hi (spot c.base (k + c.from - c.to))
backward_out c mid hi k (inl (e, f)) a b d g = inr (inl (rw (e, across_spot c.row (k + c.from - c.to)) (omega arith)))
backward_out c mid hi k (inr a) b d e g = apart_out c mid hi (k + c.from - c.to) a (omega arith) (omega arith) (omega arith) g

module _ (x : Operator) (c : RowCopy) {lo mid hi : ℕ} {s t u : List ℕ} where
  -- the next part, its sources read from the buffer as it is then
  pub forward_next : Forward c → Stretched (copied x c s) c.row lo mid s t → Stretched (copied x c t) c.row mid hi t u
      → c.to ≤ lo → lo ≤ mid → mid ≤ hi → hi ≤ c.to + c.count → Stretched (copied x c s) c.row lo hi s u
  unfolding copied
  forward_next f p q a b d e =
      stretched_then p
      (stretched_by (λ m i v. ap (λ (b : Bool). operator_bit x ((m - 8 * c.row) % 16) b v)
      (left_kept c.base (across c.row m + c.from - c.to) p
      (forward_out c lo mid (across c.row m) f a b i.from (omega (arith, i.to))))) q)
      b d

  -- the part before
  pub backward_next : Backward c → Stretched (copied x c s) c.row mid hi s t → Stretched (copied x c t) c.row lo mid t u
      → c.to ≤ lo → lo ≤ mid → mid ≤ hi → hi ≤ c.to + c.count → Stretched (copied x c s) c.row lo hi s u
  unfolding copied
  backward_next f p q a b d e =
      stretched_before p
      (stretched_by (λ m i v. ap (λ (b : Bool). operator_bit x ((m - 8 * c.row) % 16) b v)
      (left_kept c.base (across c.row m + c.from - c.to) p
      (backward_out c mid hi (across c.row m) f (omega (arith, i.from)) i.to d e))) q)
      b d

-- ## From any source

-- the part behind those copied, its sources read from the buffer as it is then
module _ (x : Operator) (c : RowCopy) {lo mid hi : ℕ} {s t u : List ℕ} where
  pub next_part : (source : Option (Bor (List ℕ))) → ReadFirst source false c → Stretched (copied x c (source_in source s)) c.row lo mid s t
      → Stretched (copied x c (source_in source t)) c.row mid hi t u → c.to ≤ lo → lo ≤ mid → mid ≤ hi → hi ≤ c.to + c.count
      → Stretched (copied x c (source_in source s)) c.row lo hi s u
  next_part (Some v) f p q a b d e = stretched_then p q b d
  next_part None f p q a b d e = forward_next x c f p q a b d e

  -- the part before them
  pub part_before : (source : Option (Bor (List ℕ))) → ReadFirst source true c → Stretched (copied x c (source_in source s)) c.row mid hi s t
      → Stretched (copied x c (source_in source t)) c.row lo mid t u → c.to ≤ lo → lo ≤ mid → mid ≤ hi → hi ≤ c.to + c.count
      → Stretched (copied x c (source_in source s)) c.row lo hi s u
  part_before (Some v) f p q a b d e = stretched_before p q b d
  part_before None f p q a b d e = backward_next x c f p q a b d e
