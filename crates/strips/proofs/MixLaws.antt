-- Bytes mixed by strips, and words mixed under a cover, as stretches of a row; and the strips of a table.
use mathlib.Core.Path.{◌≡◌, refl, sym, ap, ap₂, ◌∙◌}
use mathlib.Core.Logic.{◌⊎◌, inl, inr}
use mathlib.Core.Bool.{Bool}
use mathlib.Core.List.{List, []}
use Prim.Native.Nat.{ℕ, ◌+◌, ◌-◌, ◌*◌, ◌/◌, ◌%◌, ◌≤◌, ◌<◌}
use native.Mathlib.Omega.{arith}
use native.Mathlib.Decide.{dec_lt}
use lib.Bits.{and_zero_r}
use lib.ListN.{get_or}
use Rattle.model.specs.Words.{bit, bit_at}
use Rattle.model.proofs.Decisions.{cond_true, cond_false}
use Rattle.strips.specs.declared.inks.Ink.{Ink}
use Rattle.strips.specs.Strips.{mixed, mixed_bit, Filled, Laid, Closing, Table, keep_at, flip_at, per_at}
use Rattle.strips.specs.Covers.{Covers, Edged}
use Rattle.strips.specs.Stretches.{across, In, Out, Stretched}
use Rattle.strips.specs.Tables.{index_at, brushed, InkAt}
use Rattle.strips.proofs.StretchLaws.{stretched_then}
use Rattle.strips.proofs.EdgeLaws.{kept_bit, mixed_bit_lem}

-- ## Bytes mixed

-- mixing with keep and flip is g at the bits of byte i
abbrev Mixes : (ℕ → Bool → Bool) → ℕ → ℕ → ℕ → Type 0
Mixes g i keep flip = (j : ℕ) → j < 8 → (v : Bool) → mixed_bit keep flip j v ≡ g (8 * i + j) v

mixes_bit : (g : ℕ → Bool → Bool) (keep flip m : ℕ) (old new : List ℕ) → Mixes g (m / 8) keep flip
    → get_or new (m / 8) 0 ≡ mixed (get_or old (m / 8) 0) keep flip → bit_at new m ≡ g m (bit_at old m)
unfolding bit_at
mixes_bit g keep flip m old new h e =
    let z : 8 * (m / 8) + m % 8 ≡ m = omega arith in
    ap (λ (v : ℕ). bit v (m % 8)) e ∙ mixed_bit_lem (get_or old (m / 8) 0) keep flip (m % 8) ∙ h (m % 8) (omega arith) _
    ∙ ap (λ (k : ℕ). g k (bit (get_or old (m / 8) 0) (m % 8))) z

-- whole words qa .. qb - 1 of a row, filled by a strip
filled_stretched : {keep flip old new : List ℕ} (g : ℕ → Bool → Bool) (o qa qb : ℕ) → Filled (o + 2 * qa) (o + 2 * qb) keep flip old new
    → ((i : ℕ) → o + 2 * qa ≤ i → i < o + 2 * qb → Mixes g i (get_or keep ((i - (o + 2 * qa)) % 16) 0) (get_or flip ((i - (o + 2 * qa)) % 16) 0))
    → Stretched g o (16 * qa) (16 * qb) old new
filled_stretched {keep} {flip} {old} {new} g o qa qb f h = record {
  length = f.length;
  inside = λ m i.
      let lo : o + 2 * qa ≤ m / 8 = omega (arith, i.row, i.from) in
      let hi : m / 8 < o + 2 * qb = omega (arith, i.row, i.to) in
      mixes_bit g _ _ m old new (h (m / 8) lo hi) (f.inside (m / 8) lo hi);
  outside = λ m i. kept_bit m old new (f.outside (m / 8) (far m i));
}
  where
    far : (m : ℕ) → Out o (16 * qa) (16 * qb) m → (m / 8 < o + 2 * qa) ⊎ (o + 2 * qb ≤ m / 8)
    far m (inl i) = inl (omega arith)
    far m (inr (inl i)) = inl (omega arith)
    far m (inr (inr i)) = go (dec_lt m (8 * o))
      where
        go : Dec (m < 8 * o) → (m / 8 < o + 2 * qa) ⊎ (o + 2 * qb ≤ m / 8)
        go (yes l) = inl (omega arith)
        go (no l) = inr (omega arith)

-- bytes put are bytes mixed that keep nothing
laid_filled : {from end : ℕ} {flip old new : List ℕ} → Laid from end flip old new → Filled from end [] flip old new
laid_filled {from} {end} {flip} {old} f = record {
  length = f.length;
  inside = λ i p q. f.inside i p q ∙ sym (bare (get_or old i 0) (get_or flip ((i - from) % 16) 0));
  outside = f.outside;
}
  where
    bare : (x y : ℕ) → mixed x 0 y ≡ y
    bare x y = rw (and_zero_r x)

-- ## A word under a cover

-- word q of a row, mixed at its bits from the left, lead to tail - 1
pub edged_stretched : (g : ℕ → Bool → Bool) (o q lead tail cover : ℕ) (ink : Ink) {old new : List ℕ} → Edged (o + 2 * q) ink cover old new
    → Covers lead tail cover → tail ≤ 16
    → ((i : ℕ) → i < 16 → 16 ≤ i + tail → i + lead < 16 → (v : Bool) → mixed_bit ink.keep ink.flip i v ≡ g (8 * (o + 2 * q) + i) v)
    → Stretched g o (16 * q + lead) (16 * q + tail) old new
edged_stretched g o q lead tail cover ink {old} {new} e c w mixes = record {
  length = e.length;
  inside = λ m i.
      let r : ℕ = m - 8 * (o + 2 * q) in
      let z : m ≡ 8 * (o + 2 * q) + (m - 8 * (o + 2 * q)) = omega (arith, i.row, i.from, i.to) in
      on m r z (omega (arith, i.row, i.from, i.to)) (omega (arith, i.row, i.from, i.to)) (omega (arith, i.row, i.from, i.to));
  outside = λ m i. apart m i (dec_lt m (8 * (o + 2 * q))) (dec_lt m (8 * (o + 2 * q) + 16));
}
  where
    on : (m r : ℕ) → m ≡ 8 * (o + 2 * q) + r → r < 16 → 16 ≤ r + tail → r + lead < 16 → bit_at new m ≡ g m (bit_at old m)
    on m r z l a b = rw z (e.inside r l ∙ cond_true _ _ (c.on r l a b) ∙ mixes r l a b _)

    off : (m r : ℕ) → m ≡ 8 * (o + 2 * q) + r → r < 16 → (r + tail < 16) ⊎ (16 ≤ r + lead) → bit_at new m ≡ bit_at old m
    off m r z l a = rw z (e.inside r l ∙ cond_false _ _ (c.off r l a))

    where_off : (m : ℕ) → 8 * (o + 2 * q) ≤ m → m < 8 * (o + 2 * q) + 16 → Out o (16 * q + lead) (16 * q + tail) m
        → (m - 8 * (o + 2 * q) + tail < 16) ⊎ (16 ≤ m - 8 * (o + 2 * q) + lead)
    where_off m a b (inl i) = absurd (omega arith)
    where_off m a b (inr (inl i)) = inr (omega arith)
    where_off m a b (inr (inr i)) = inl (omega arith)

    apart : (m : ℕ) → Out o (16 * q + lead) (16 * q + tail) m → Dec (m < 8 * (o + 2 * q)) → Dec (m < 8 * (o + 2 * q) + 16) → bit_at new m ≡ bit_at old m
    apart m i (yes l) _ = e.outside m (inl l)
    apart m i (no l) (no k) = e.outside m (inr (omega arith))
    apart m i (no l) (yes k) =
        let z : m ≡ 8 * (o + 2 * q) + (m - 8 * (o + 2 * q)) = omega arith in
        off m (m - 8 * (o + 2 * q)) z (omega arith) (where_off m (omega arith) k i)

-- ## The strips of a table

-- d words on; after eight words a strip comes again
words_on : (p per w d : ℕ) → per % 2 ≡ 0 → ((p + w * per) % 16 + d % 8 * per) % 16 ≡ (p + (w + d) * per) % 16
words_on p per w d e =
    let x : d * per ≡ 16 * (d / 8 * (per / 2)) + d % 8 * per = rounds (d / 8) (d % 8) (per / 2) d per (omega arith) (omega arith) in
    let y : (w + d) * per ≡ w * per + d * per = omega arith in
    rw (y, x) (folded p (w * per) (d / 8 * (per / 2)) (d % 8 * per))
  where
    rounds : (a b h d per : ℕ) → d ≡ 8 * a + b → per ≡ 2 * h → d * per ≡ 16 * (a * h) + b * per
    rounds a b h d per e f = rw (e, f) (omega arith)

    folded : (p x a b : ℕ) → ((p + x) % 16 + b) % 16 ≡ (p + (x + (16 * a + b))) % 16
    folded p x a b = omega arith

-- byte k of strip t is a byte of the strip that begins k / 2 words on
abbrev Repeats : ℕ → (ℕ → ℕ → ℕ) → Type 0
Repeats per f = (t k : ℕ) → t < 16 → k < 16 → f t k ≡ f ((t + k / 2 * per) % 16) (k % 2)

-- byte i of a row that begins at byte o, by a strip that begins at word q
strip_byte : (s : List ℕ) (f : ℕ → ℕ → ℕ) (phase o q i : ℕ) → Repeats (per_at s) f → per_at s % 2 ≡ 0 → o + 2 * q ≤ i
    → f (index_at s phase q) ((i - (o + 2 * q)) % 16) ≡ f (index_at s phase ((i - o) / 2)) ((i - o) % 2)
strip_byte s f phase o q i h e l =
    let k : (i - (o + 2 * q)) % 16 / 2 ≡ ((i - o) / 2 - q) % 8 = omega arith in
    let b : (i - (o + 2 * q)) % 16 % 2 ≡ (i - o) % 2 = omega arith in
    let w : q + ((i - o) / 2 - q) ≡ (i - o) / 2 = omega arith in
    h (index_at s phase q) ((i - (o + 2 * q)) % 16) (omega arith) (omega arith)
    ∙ ap₂ f (ap (λ (k : ℕ). (index_at s phase q + k * per_at s) % 16) k ∙ words_on phase (per_at s) q ((i - o) / 2 - q) e ∙ ap (index_at s phase) w) b

-- a byte mixed as the table says is brushed
brushed_mixes : (s : List ℕ) (phase o i keep flip : ℕ) → keep ≡ keep_at s (index_at s phase ((i - o) / 2)) ((i - o) % 2)
    → flip ≡ flip_at s (index_at s phase ((i - o) / 2)) ((i - o) % 2) → Mixes (brushed s phase o) i keep flip
unfolding brushed
brushed_mixes s phase o i keep flip a b j h v =
    let q : (8 * i + j) / 8 ≡ i = omega arith in
    let r : (8 * i + j) % 8 ≡ j = omega arith in
    rw (q, r, a, b) refl

-- whole words of a row, by the strip of the first of them, at byte `at` of the table
pub words_stretched : (s keep flip : List ℕ) (phase o from end : ℕ) {at : ℕ} {old new : List ℕ} → Table s → at ≡ 32 * index_at s phase from
    → ((k : ℕ) → k < 16 → get_or keep k 0 ≡ get_or s (at + k) 0) → ((k : ℕ) → k < 16 → get_or flip k 0 ≡ get_or s (at + 16 + k) 0)
    → Filled (o + 2 * from) (o + 2 * end) keep flip old new → Stretched (brushed s phase o) o (16 * from) (16 * end) old new
words_stretched s keep flip phase o from end t e a b f =
    filled_stretched (brushed s phase o) o from end f λ i l h.
    let k : ℕ = (i - (o + 2 * from)) % 16 in
    let q : k < 16 = omega arith in
    brushed_mixes s phase o i _ _
    (a k q ∙ ap (λ (x : ℕ). get_or s (x + k) 0) e ∙ strip_byte s (keep_at s) phase o from i t.keeps t.even l)
    (b k q ∙ ap (λ (x : ℕ). get_or s (x + 16 + k) 0) e ∙ strip_byte s (flip_at s) phase o from i t.flips t.even l)

-- .. where no old bit is kept
pub bare_stretched : (s flip : List ℕ) (phase o from end : ℕ) {at : ℕ} {old new : List ℕ} → Table s → get_or s 513 0 ≡ 1 → at ≡ 32 * index_at s phase from
    → ((k : ℕ) → k < 16 → get_or flip k 0 ≡ get_or s (at + 16 + k) 0)
    → Laid (o + 2 * from) (o + 2 * end) flip old new → Stretched (brushed s phase o) o (16 * from) (16 * end) old new
bare_stretched s flip phase o from end t n e b f =
    words_stretched s [] flip phase o from end t e
    (λ k h. sym (ap (λ (x : ℕ). get_or s (x + k) 0) e ∙ t.bare n (index_at s phase from) k (omega arith) h)) b (laid_filled f)

-- the strip of the last eight words, at byte `close`
pub strip_closing : (s flip last : List ℕ) (phase o from end : ℕ) {at close : ℕ} → Table s → from + 8 ≤ end
    → at ≡ 32 * index_at s phase from → ((k : ℕ) → k < 16 → get_or flip k 0 ≡ get_or s (at + 16 + k) 0)
    → close ≡ 32 * index_at s phase (end - 8) → ((k : ℕ) → k < 16 → get_or last k 0 ≡ get_or s (close + 16 + k) 0)
    → Closing (o + 2 * from) (o + 2 * end) flip last
strip_closing s flip last phase o from end t h e a f b = record {
  bytes = λ k l.
      let i : ℕ = o + 2 * (end - 8) + k in
      let j : ℕ = (i - (o + 2 * from)) % 16 in
      let y : (o + 2 * (end - 8) + k - (o + 2 * (end - 8))) % 16 ≡ k = omega arith in
      let z : o + 2 * (end - 8) + k - (o + 2 * from) ≡ o + 2 * end - 16 - (o + 2 * from) + k = omega arith in
      b k l ∙ ap (λ (x : ℕ). get_or s (x + 16 + k) 0) f ∙ ap (flip_at s (index_at s phase (end - 8))) (sym y)
      ∙ strip_byte s (flip_at s) phase o (end - 8) i t.flips t.even (omega arith)
      ∙ sym (strip_byte s (flip_at s) phase o from i t.flips t.even (omega arith))
      ∙ sym (a j (omega arith) ∙ ap (λ (x : ℕ). get_or s (x + 16 + j) 0) e) ∙ ap (λ (j : ℕ). get_or flip (j % 16) 0) z;
}

-- what a strip's first word makes of bit i of its word
inked : (s : List ℕ) (phase o q : ℕ) (ink : Ink) → InkAt s (32 * index_at s phase q) ink
    → (i : ℕ) → i < 16 → (v : Bool) → mixed_bit ink.keep ink.flip i v ≡ brushed s phase o (8 * (o + 2 * q) + i) v
unfolding brushed
inked s phase o q ink n i l v =
    let a : ((8 * (o + 2 * q) + i) / 8 - o) / 2 ≡ q = omega arith in
    let b : ((8 * (o + 2 * q) + i) / 8 - o) % 2 ≡ i / 8 = omega arith in
    let r : (8 * (o + 2 * q) + i) % 8 ≡ i % 8 = omega arith in
    rw (a, b, r, n.keep i l, n.flip i l) refl

-- a word under a cover, by its strip
pub word_stretched : (s : List ℕ) (phase o q lead tail cover lo hi : ℕ) (ink : Ink) {old new : List ℕ} → InkAt s (32 * index_at s phase q) ink
    → Edged (o + 2 * q) ink cover old new → Covers lead tail cover → tail ≤ 16 → 16 * q + lead ≡ lo → 16 * q + tail ≡ hi
    → Stretched (brushed s phase o) o lo hi old new
word_stretched s phase o q lead tail cover lo hi ink n e c w x y =
    rw (← x, ← y) (edged_stretched (brushed s phase o) o q lead tail cover ink e c w (λ i l a b. inked s phase o q ink n i l))

-- ## Stretches that meet, the later one first

pub stretched_before : {g : ℕ → Bool → Bool} {o lo mid hi : ℕ} {old t new : List ℕ} → Stretched g o mid hi old t → Stretched g o lo mid t new
    → lo ≤ mid → mid ≤ hi → Stretched g o lo hi old new
stretched_before {g} {o} {lo} {mid} {hi} {old} {t} {new} p q h k = record {
  length = q.length ∙ p.length;
  inside = λ m i. at m i (dec_lt (across o m) mid);
  outside = λ m i. q.outside m (under m i) ∙ p.outside m (over m i);
}
  where
    over : (m : ℕ) → Out o lo hi m → Out o mid hi m
    over m (inl i) = inl i
    over m (inr (inl i)) = inr (inl (omega arith))
    over m (inr (inr i)) = inr (inr i)

    under : (m : ℕ) → Out o lo hi m → Out o lo mid m
    under m (inl i) = inl i
    under m (inr (inl i)) = inr (inl i)
    under m (inr (inr i)) = inr (inr (omega arith))

    at : (m : ℕ) → In o lo hi m → Dec (across o m < mid) → bit_at new m ≡ g m (bit_at old m)
    at m i (yes l) = q.inside m (record { row = i.row; from = i.from; to = l }) ∙ ap (g m) (p.outside m (inr (inl l)))
    at m i (no l) =
        let e : mid ≤ across o m = omega arith in
        q.outside m (inr (inr e)) ∙ p.inside m (record { row = i.row; from = e; to = i.to })

-- the first word and the last one under a cover, then the words between
pub ends_stretched : (s : List ℕ) (phase o lo hi lead tail : ℕ) (first last : Ink) {old t u new : List ℕ} → lo < hi → lo / 16 < (hi - 1) / 16
    → InkAt s (32 * index_at s phase (lo / 16)) first → Covers (lo % 16) 16 lead → Edged (o + 2 * (lo / 16)) first lead old t
    → InkAt s (32 * index_at s phase ((hi - 1) / 16)) last → Covers 0 ((hi - 1) % 16 + 1) tail → Edged (o + 2 * ((hi - 1) / 16)) last tail t u
    → Stretched (brushed s phase o) o (16 * (lo / 16 + 1)) (16 * ((hi - 1) / 16)) u new → Stretched (brushed s phase o) o lo hi old new
ends_stretched s phase o lo hi lead tail first last h l i c e j d f w =
    let z : ℕ = (hi - 1) / 16 in
    let p = word_stretched s phase o (lo / 16) (lo % 16) 16 lead lo (16 * (lo / 16 + 1)) first i e c (omega arith) (omega arith) (omega arith) in
    let q = word_stretched s phase o z 0 ((hi - 1) % 16 + 1) tail (16 * z) hi last j f d (omega arith) (omega arith) (omega arith) in
    stretched_then p (stretched_before q w (omega arith) (omega arith)) (omega arith) (omega arith)
