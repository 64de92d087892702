-- Four words at a time: covers, bytes as a number, words mixed, and the stretch of a row that they make.
use Rattle.std.specs.Int.{w64, from_le_bytes}
use mathlib.Core.Path.{◌≡◌, refl, sym, ap, ap₂, ◌∙◌}
use mathlib.Core.Logic.{◌⊎◌, inl, inr}
use mathlib.Core.Bool.{Bool, true, false, cond, ◌&&◌}
use mathlib.Core.List.{List}
use Prim.Native.Nat.{ℕ, zero, suc, ◌+◌, ◌-◌, ◌*◌, ◌/◌, ◌%◌, ◌^◌, ◌≤◌, ◌<◌}
use native.Mathlib.Omega.{arith}
use native.Mathlib.Decide.{dec_lt}
use native.Mathlib.Nat.{add_comm}
use lib.Bits.{bit_xor}
use lib.ListN.{get_or}
use Rattle.model.specs.Words.{bit, bit_at}
use Rattle.model.proofs.BitLaws.{bit_shr}
use Rattle.model.proofs.Decisions.{cond_true, cond_false}
use Rattle.raster.proofs.BitLaws.{bit_zero, bit_mod, bit_xor_lem, differs}
use Rattle.raster.proofs.Table.{each}
use Rattle.strips.specs.Stretches.{across, In, Out, Stretched}
use Rattle.strips.specs.Strips.{mixed, mixed_bit, Put, Muxed, RotatedLeft, FirstOver, LastOver}
use Rattle.strips.specs.Strokes.{pattern_on}
use Rattle.strips.specs.declared.inks.Ink.{Ink}
use Rattle.strips.proofs.FieldBits.{Bytes}
use Rattle.strips.proofs.BitParts.{bit_low, bit_high, bit_beyond, byte_bit, either}
use Rattle.strips.proofs.EdgeLaws.{kept_bit, mixed_bit_lem}
use Rattle.strips.proofs.PatternLaws.{depth_elim}
use Rattle.strips.proofs.SpreadLaws.{across_on}
use Rattle.strips.proofs.StretchLaws.{stretched_then}
use Rattle.stencils.specs.declared.Stencil.{Stencil}
use Rattle.stencils.specs.declared.fours.WideInk.{WideInk}
use Rattle.stencils.specs.Stencils.{FourCovers, FourMixed, WideOf, Chosen, inked_bit, stencilled, Repeated, Usable}

-- ## Covers

abbrev pub all : ℕ
all = 18446744073709551615

all_on : (j : ℕ) → j < 64 → bit all j ≡ true
unfolding bit
all_on j h = each 64 (bit all) (λ j. true) refl j h

-- bits from the left, from bit k on
pub lead_on : (k j : ℕ) → j + k < 64 → bit (all / 2 ^ k) j ≡ true
lead_on k j h = bit_shr all k j ∙ all_on (k + j) (omega arith)

pub lead_off : (k j : ℕ) → 64 ≤ j + k → bit (all / 2 ^ k) j ≡ false
lead_off k j h = bit_shr all k j ∙ bit_beyond 64 all (k + j) (omega arith) (omega arith)

top_word : (x : ℕ) → x < 2 ^ 64 → x / 2 ^ 48 < 2 ^ 16
top_word x h = omega arith

low_word : (x : ℕ) → x % 2 ^ 16 < 2 ^ 16
low_word x = omega arith

-- four words from the left, as they stand in a buffer
pub in_words : (x r : ℕ) → x < 2 ^ 64 → r ≡ x / 2 ^ 48 + 2 ^ 16 * (x / 2 ^ 32 % 2 ^ 16) + 2 ^ 32 * (x / 2 ^ 16 % 2 ^ 16 + 2 ^ 16 * (x % 2 ^ 16))
    → (i : ℕ) → i < 64 → bit r i ≡ bit x (63 - across 0 i)
in_words x r h f i l =
    let z : r ≡ x / 2 ^ 48 + 2 ^ 16 * (x / 2 ^ 32 % 2 ^ 16 + 2 ^ 16 * (x / 2 ^ 16 % 2 ^ 16 + 2 ^ 16 * (x % 2 ^ 16)))
    = f ∙ nested (x / 2 ^ 48) (x / 2 ^ 32 % 2 ^ 16) (x / 2 ^ 16 % 2 ^ 16) (x % 2 ^ 16) in
    ap (λ (z : ℕ). bit z i) z ∙ go (dec_lt i 16) (dec_lt i 32) (dec_lt i 48)
  where
    nested : (a b c d : ℕ) → a + 2 ^ 16 * b + 2 ^ 32 * (c + 2 ^ 16 * d) ≡ a + 2 ^ 16 * (b + 2 ^ 16 * (c + 2 ^ 16 * d))
    nested a b c d = omega arith

    w₀ : x / 2 ^ 48 < 2 ^ 16
    w₀ = top_word x h

    w₁ : x / 2 ^ 32 % 2 ^ 16 < 2 ^ 16
    w₁ = low_word (x / 2 ^ 32)

    w₂ : x / 2 ^ 16 % 2 ^ 16 < 2 ^ 16
    w₂ = low_word (x / 2 ^ 16)

    go : Dec (i < 16) → Dec (i < 32) → Dec (i < 48)
        → bit (x / 2 ^ 48 + 2 ^ 16 * (x / 2 ^ 32 % 2 ^ 16 + 2 ^ 16 * (x / 2 ^ 16 % 2 ^ 16 + 2 ^ 16 * (x % 2 ^ 16)))) i ≡ bit x (63 - across 0 i)
    go (yes a) _ _ =
        let e : 48 + i ≡ 63 - across 0 i = omega arith in
        bit_low 16 (x / 2 ^ 48) _ w₀ i a ∙ bit_shr x 48 i ∙ ap (bit x) e
    go (no a) (yes b) _ =
        let e : 32 + (i - 16) ≡ 63 - across 0 i = omega arith in
        bit_high 16 (x / 2 ^ 48) _ w₀ i (omega arith) ∙ bit_low 16 (x / 2 ^ 32 % 2 ^ 16) _ w₁ (i - 16) (omega arith)
        ∙ bit_mod 16 (x / 2 ^ 32) (i - 16) (omega arith) ∙ bit_shr x 32 (i - 16) ∙ ap (bit x) e
    go (no a) (no b) (yes c) =
        let e : 16 + (i - 16 - 16) ≡ 63 - across 0 i = omega arith in
        bit_high 16 (x / 2 ^ 48) _ w₀ i (omega arith) ∙ bit_high 16 (x / 2 ^ 32 % 2 ^ 16) _ w₁ (i - 16) (omega arith)
        ∙ bit_low 16 (x / 2 ^ 16 % 2 ^ 16) _ w₂ (i - 16 - 16) (omega arith) ∙ bit_mod 16 (x / 2 ^ 16) (i - 16 - 16) (omega arith)
        ∙ bit_shr x 16 (i - 16 - 16) ∙ ap (bit x) e
    go (no a) (no b) (no c) =
        let e : i - 16 - 16 - 16 ≡ 63 - across 0 i = omega arith in
        bit_high 16 (x / 2 ^ 48) _ w₀ i (omega arith) ∙ bit_high 16 (x / 2 ^ 32 % 2 ^ 16) _ w₁ (i - 16) (omega arith)
        ∙ bit_high 16 (x / 2 ^ 16 % 2 ^ 16) _ w₂ (i - 16 - 16) (omega arith) ∙ bit_mod 16 x (i - 16 - 16 - 16) (omega arith) ∙ ap (bit x) e

-- .. as the code has their sum
two_words : (a b : ℕ) → b < 2 ^ 16 → a + b * 2 ^ 16 % 2 ^ 64 ≡ a + 2 ^ 16 * b
two_words a b h = omega arith

pair_fits : (c d : ℕ) → c < 2 ^ 16 → d < 2 ^ 16 → c + 2 ^ 16 * d < 2 ^ 32
pair_fits c d h k = omega arith

high_pair : (y : ℕ) → y < 2 ^ 32 → y * 2 ^ 32 % 2 ^ 64 ≡ 2 ^ 32 * y
high_pair y h = omega arith

pub words_sum : (x : ℕ) → x / 2 ^ 48 + x / 2 ^ 32 % 65536 * 2 ^ 16 % 2 ^ 64 + (x / 2 ^ 16 % 65536 + x % 65536 * 2 ^ 16 % 2 ^ 64) * 2 ^ 32 % 2 ^ 64
    ≡ x / 2 ^ 48 + 2 ^ 16 * (x / 2 ^ 32 % 2 ^ 16) + 2 ^ 32 * (x / 2 ^ 16 % 2 ^ 16 + 2 ^ 16 * (x % 2 ^ 16))
words_sum x =
    ap₂ (λ (a b : ℕ). a + b * 2 ^ 32 % 2 ^ 64) (two_words (x / 2 ^ 48) (x / 2 ^ 32 % 2 ^ 16) (low_word (x / 2 ^ 32)))
    (two_words (x / 2 ^ 16 % 2 ^ 16) (x % 2 ^ 16) (low_word x))
    ∙ ap (λ (b : ℕ). x / 2 ^ 48 + 2 ^ 16 * (x / 2 ^ 32 % 2 ^ 16) + b)
    (high_pair _ (pair_fits (x / 2 ^ 16 % 2 ^ 16) (x % 2 ^ 16) (low_word (x / 2 ^ 16)) (low_word x)))

-- from bit lo on
pub cover_whole : (lo hi r : ℕ) → 63 < hi → ((i : ℕ) → i < 64 → bit r i ≡ bit (all / 2 ^ lo) (63 - across 0 i)) → FourCovers lo hi r
cover_whole lo hi r h e = record {
  on = λ i l a b. e i l ∙ lead_on lo (63 - across 0 i) (omega arith);
  off = λ i l o. e i l ∙ lead_off lo (63 - across 0 i) (past i l o);
}
  where
    past : (i : ℕ) → i < 64 → (across 0 i < lo) ⊎ (hi ≤ across 0 i) → 64 ≤ 63 - across 0 i + lo
    past i l (inl o) = omega arith
    past i l (inr o) = absurd (omega arith)

-- .. up to bit hi - 1
pub cover_part : (lo hi r : ℕ) → lo < hi → hi < 64
    → ((i : ℕ) → i < 64 → bit r i ≡ bit (bit_xor (all / 2 ^ lo) (all / 2 ^ hi)) (63 - across 0 i)) → FourCovers lo hi r
cover_part lo hi r k h e = record {
  on = λ i l a b. e i l ∙ bit_xor_lem (63 - across 0 i) (all / 2 ^ lo) (all / 2 ^ hi)
      ∙ ap₂ differs (lead_on lo (63 - across 0 i) (omega arith)) (lead_off hi (63 - across 0 i) (omega arith));
  off = λ i l o. e i l ∙ bit_xor_lem (63 - across 0 i) (all / 2 ^ lo) (all / 2 ^ hi) ∙ past i l o;
}
  where
    past : (i : ℕ) → i < 64 → (across 0 i < lo) ⊎ (hi ≤ across 0 i)
        → differs (bit (all / 2 ^ lo) (63 - across 0 i)) (bit (all / 2 ^ hi) (63 - across 0 i)) ≡ false
    past i l (inl o) = ap₂ differs (lead_off lo (63 - across 0 i) (omega arith)) (lead_off hi (63 - across 0 i) (omega arith))
    past i l (inr o) = ap₂ differs (lead_on lo (63 - across 0 i) (omega arith)) (lead_on hi (63 - across 0 i) (omega arith))

pub cover_none : (lo hi : ℕ) → hi ≤ lo → FourCovers lo hi 0
cover_none lo hi h = record { on = λ i l a b. absurd (omega arith); off = λ i l o. bit_zero i }

pub ruleset covers = (cover_whole, cover_part, cover_none)

-- ## Bytes as a number

unfoldable bytes_num : List ℕ → ℕ → ℕ → ℕ
bytes_num l at zero = 0
bytes_num l at (suc n) = get_or l at 0 + 2 ^ 8 * bytes_num l (at + 1) n

bytes_bit : (l : List ℕ) → Bytes l → (n at i : ℕ) → i < 8 * n → bit (bytes_num l at n) i ≡ bit_at l (8 * at + i)
unfolding bytes_num bit_at
bytes_bit l b zero at i h = absurd (omega arith)
bytes_bit l b (suc n) at i h = go (bytes_bit l b n (at + 1)) (dec_lt i 8)
  where
    go : ((i : ℕ) → i < 8 * n → bit (bytes_num l (at + 1) n) i ≡ bit (get_or l ((8 * (at + 1) + i) / 8) 0) ((8 * (at + 1) + i) % 8)) → Dec (i < 8)
        → bit (get_or l at 0 + 2 ^ 8 * bytes_num l (at + 1) n) i ≡ bit (get_or l ((8 * at + i) / 8) 0) ((8 * at + i) % 8)
    go more (yes a) =
        let q : (8 * at + i) / 8 ≡ at = omega arith in
        let r : (8 * at + i) % 8 ≡ i = omega arith in
        rw (q, r) (bit_low 8 (get_or l at 0) (bytes_num l (at + 1) n) (b at) i a)
    go more (no a) =
        let e : 8 * (at + 1) + (i - 8) ≡ 8 * at + i = omega arith in
        bit_high 8 (get_or l at 0) (bytes_num l (at + 1) n) (b at) i (omega arith) ∙ more (i - 8) (omega arith)
        ∙ ap (λ (m : ℕ). bit (get_or l (m / 8) 0) (m % 8)) e

pub eight_is : (l : List ℕ) → Bytes l → (at r : ℕ) (bytes : List ℕ) → r ≡ from_le_bytes w64 bytes
    → ((k : ℕ) → k < 8 → get_or bytes k 0 ≡ get_or l (at + k) 0) → (i : ℕ) → i < 64 → bit r i ≡ bit_at l (8 * at + i)
unfolding bytes_num
eight_is l b at r bytes e f i h = ap (λ (z : ℕ). bit z i) (e ∙ whole) ∙ bytes_bit l b 8 at i h
  where
    here : at + 0 ≡ at
    here = omega arith

    ahead : (k : ℕ) → at + k + 1 ≡ at + (k + 1)
    ahead k = omega arith

    nested : (a b c d e f g h : ℕ)
        → a + b * 256 ^ 1 + c * 256 ^ 2 + d * 256 ^ 3 + e * 256 ^ 4 + f * 256 ^ 5 + g * 256 ^ 6 + h * 256 ^ 7
        ≡ a + 2 ^ 8 * (b + 2 ^ 8 * (c + 2 ^ 8 * (d + 2 ^ 8 * (e + 2 ^ 8 * (f + 2 ^ 8 * (g + 2 ^ 8 * (h + 2 ^ 8 * 0)))))))
    nested a b c d e f g h = omega arith

    whole : from_le_bytes w64 bytes ≡ bytes_num l at 8
    whole = rw (
      f 0 (omega arith),
      f 1 (omega arith),
      f 2 (omega arith),
      f 3 (omega arith),
      f 4 (omega arith),
      f 5 (omega arith),
      f 6 (omega arith),
      f 7 (omega arith),
      here,
      ahead 1,
      ahead 2,
      ahead 3,
      ahead 4,
      ahead 5,
      ahead 6,
    )
        (nested (get_or l at 0) (get_or l (at + 1) 0) (get_or l (at + 2) 0) (get_or l (at + 3) 0) (get_or l (at + 4) 0) (get_or l (at + 5) 0)
        (get_or l (at + 6) 0) (get_or l (at + 7) 0))

-- ## Four words mixed

-- bit i of eight bytes at byte `at`
at_bit : (l : List ℕ) (at i : ℕ) → bit_at l (8 * at + i) ≡ bit (get_or l (at + i / 8) 0) (i % 8)
unfolding bit_at
at_bit l at i =
    let q : (8 * at + i) / 8 ≡ at + i / 8 = omega arith in
    let r : (8 * at + i) % 8 ≡ i % 8 = omega arith in
    rw (q, r) refl

far_byte : (at n m : ℕ) → (m < 8 * at) ⊎ (8 * at + 8 * n ≤ m) → (m / 8 < at) ⊎ (at + n ≤ m / 8)
far_byte at n m (inl l) = inl (omega arith)
far_byte at n m (inr l) = inr (omega arith)

-- eight bytes put at once
pub put_mixed : (at : ℕ) (ink : WideInk) (cover x y : ℕ) (old new : List ℕ) → ((i : ℕ) → i < 64 → bit x i ≡ bit_at old (8 * at + i))
    → Muxed cover x (mixed x ink.keep ink.flip) y → Put 8 at y old new → FourMixed at ink cover old new
put_mixed at ink cover x y old new e m p = record {
  length = p.length;
  on = λ i l c. at_i i l ∙ cond_true _ _ c ∙ ap (mixed_bit ink.keep ink.flip i) (e i l);
  off = λ i l c. at_i i l ∙ cond_false _ _ c ∙ e i l;
  outside = λ m o. kept_bit m old new (p.outside (m / 8) (far_byte at 8 m o));
}
  where
    at_i : (i : ℕ) → i < 64 → bit_at new (8 * at + i) ≡ cond (bit cover i) (mixed_bit ink.keep ink.flip i (bit x i)) (bit x i)
    at_i i l =
        let z : 8 * (i / 8) + i % 8 ≡ i = omega arith in
        at_bit new at i ∙ ap (λ (b : ℕ). bit b (i % 8)) (p.inside (i / 8) (omega arith))
        ∙ byte_bit y (i / 8) (i % 8) (omega arith) ∙ ap (bit y) z ∙ m i ∙ sym (either (bit cover i) (mixed x ink.keep ink.flip) x i)
        ∙ ap (λ (b : Bool). cond (bit cover i) b (bit x i)) (mixed_bit_lem x ink.keep ink.flip i)

-- ## Stretches of a row

-- bit i of the words from word q on of a row, from the left
across_word : (o q i : ℕ) → across o (8 * (o + 2 * q) + i) ≡ 16 * q + across 0 i
across_word o q i =
    let x : 8 * (o + 2 * q) + i - 8 * o ≡ 16 * q + i = omega arith in
    ap (λ (n : ℕ). 16 * (n / 16) + (15 - n % 16)) x ∙ plain q i
  where
    plain : (q i : ℕ) → 16 * ((16 * q + i) / 16) + (15 - (16 * q + i) % 16) ≡ 16 * q + across 0 i
    plain q i = omega arith

-- the four words from word q on of a row, mixed at their bits from the left, lo to hi - 1
four_stretched : (g : ℕ → Bool → Bool) (o q lo hi cover : ℕ) (ink : WideInk) {old new : List ℕ} → FourMixed (o + 2 * q) ink cover old new
    → FourCovers lo hi cover → hi ≤ 64
    → ((i : ℕ) → i < 64 → (v : Bool) → mixed_bit ink.keep ink.flip i v ≡ g (8 * (o + 2 * q) + i) v)
    → Stretched g o (16 * q + lo) (16 * q + hi) old new
four_stretched g o q lo hi cover ink {old} {new} e c w mixes = record {
  length = e.length;
  inside = λ m i.
      let z : m ≡ 8 * (o + 2 * q) + (m - 8 * (o + 2 * q)) = omega (arith, i.row, i.from) in
      on m (m - 8 * (o + 2 * q)) z i;
  outside = λ m i. apart m i (dec_lt m (8 * (o + 2 * q))) (dec_lt m (8 * (o + 2 * q) + 64));
}
  where
    on : (m r : ℕ) → m ≡ 8 * (o + 2 * q) + r → In o (16 * q + lo) (16 * q + hi) m → bit_at new m ≡ g m (bit_at old m)
    on m r z i =
        let a : across o m ≡ 16 * q + across 0 r = ap (across o) z ∙ across_word o q r in
        let f : lo ≤ across 0 r = omega (arith, i.from, a) in
        let t : across 0 r < hi = omega (arith, i.to, a) in
        let k : r < 64 = omega arith in
        rw z (e.on r k (c.on r k f t) ∙ mixes r k _)

    off : (m r : ℕ) → m ≡ 8 * (o + 2 * q) + r → r < 64 → Out o (16 * q + lo) (16 * q + hi) m → bit_at new m ≡ bit_at old m
    off m r z k i = rw z (e.off r k (c.off r k (by i)))
      where
        a : across o m ≡ 16 * q + across 0 r
        a = ap (across o) z ∙ across_word o q r

        by : Out o (16 * q + lo) (16 * q + hi) m → (across 0 r < lo) ⊎ (hi ≤ across 0 r)
        by (inl i) = absurd (omega arith)
        by (inr (inl i)) = inl (omega (arith, a))
        by (inr (inr i)) = inr (omega (arith, a))

    apart : (m : ℕ) → Out o (16 * q + lo) (16 * q + hi) m → Dec (m < 8 * (o + 2 * q)) → Dec (m < 8 * (o + 2 * q) + 64) → bit_at new m ≡ bit_at old m
    apart m i (yes l) _ = e.outside m (inl l)
    apart m i (no l) (no k) = e.outside m (inr (omega arith))
    apart m i (no l) (yes k) =
        let z : m ≡ 8 * (o + 2 * q) + (m - 8 * (o + 2 * q)) = omega arith in
        off m (m - 8 * (o + 2 * q)) z (omega arith) i

-- a cover of all four words' bits from bit lo on
whole_cover : {lo hi cover : ℕ} → FourCovers lo hi cover → 64 ≤ hi → FourCovers lo 64 cover
whole_cover {lo} {hi} {cover} c h = record { on = λ i l a b. c.on i l a (omega arith); off = λ i l o. c.off i l (past i l o) }
  where
    past : (i : ℕ) → i < 64 → (across 0 i < lo) ⊎ (64 ≤ across 0 i) → (across 0 i < lo) ⊎ (hi ≤ across 0 i)
    past i l (inl o) = inl o
    past i l (inr o) = absurd (omega arith)

-- ## A row through a stencil

-- an ink chosen by the cells over its bits
chosen_bit : {fore back ink : WideInk} {over : ℕ} → Chosen fore back over ink → Repeated fore → Repeated back → (i : ℕ) → i < 64 → (v : Bool)
    → mixed_bit ink.keep ink.flip i v ≡ inked_bit fore back (bit over i) (i % 16) v
chosen_bit {fore} {back} {ink} {over} c f b i l v =
    ap₂ (λ (x y : Bool). differs (v && x) y) (c.keep i ∙ same (bit over i) fore.keep back.keep (f.keep i l) (b.keep i l))
    (c.flip i ∙ same (bit over i) fore.flip back.flip (f.flip i l) (b.flip i l))
  where
    same : (on : Bool) (x y : ℕ) → bit x i ≡ bit x (i % 16) → bit y i ≡ bit y (i % 16) → bit (cond on x y) i ≡ bit (cond on x y) (i % 16)
    same true x y p q = p
    same false x y p q = q

-- .. is what the stencil makes of bit i of the four words from word q on, if the cells over its bits are those from that word on
module _ (s : Stencil) (us : Usable s) (cells o : ℕ) where
  mix_rule : (n : ℕ) {ink : WideInk} {over : ℕ} → Chosen s.fore s.back over ink
      → ((i : ℕ) → i < 64 → bit over i ≡ pattern_on cells (s.turn + (16 * n + across 0 i) / s.bits))
      → (i : ℕ) → i < 64 → (v : Bool) → mixed_bit ink.keep ink.flip i v ≡ stencilled s cells o (8 * (o + 2 * (s.word + n)) + i) v
  unfolding stencilled
  mix_rule n {ink} {over} c e i l v =
      let y : (8 * (o + 2 * (s.word + n)) + i - 8 * o) % 16 ≡ i % 16 = omega arith in
      let z : across o (8 * (o + 2 * (s.word + n)) + i) - 16 * s.word ≡ 16 * n + across 0 i
      = ap (λ (m : ℕ). m - 16 * s.word) (across_word o (s.word + n) i) ∙ less s.word n (across 0 i) in
      chosen_bit c us.fore us.back i l v
      ∙ ap₂ (λ (on : Bool) (j : ℕ). inked_bit s.fore s.back on j v)
      (e i l ∙ ap (λ (m : ℕ). pattern_on cells (s.turn + m / s.bits)) (sym z)) (sym y)
    where
      less : (w n a : ℕ) → 16 * (w + n) + a - 16 * w ≡ 16 * n + a
      less w n a = omega arith

  module _ (turned over : ℕ) (rotated : RotatedLeft cells s.turn turned) (ov : FirstOver turned s.bits over) where
    turned_bit : (a : ℕ) → bit turned (15 - a / s.bits % 16) ≡ pattern_on cells (s.turn + a / s.bits)
    turned_bit a = rotated (a / s.bits) ∙ ap (pattern_on cells) (add_comm (a / s.bits) s.turn)

    -- after 128 bits the cells come again
    again : (a : ℕ) → (s.turn + a / s.bits) % 16 ≡ (s.turn + (16 * 8 + a) / s.bits) % 16
    again a = depth_elim (λ b. (s.turn + a / b) % 16 ≡ (s.turn + (16 * 8 + a) / b) % 16)
        (omega arith) (omega arith) (omega arith) (omega arith) us.depth

    low : (i : ℕ) → i < 64 → bit over i ≡ pattern_on cells (s.turn + (16 * 0 + across 0 i) / s.bits)
    low i l = let z : across 0 i ≡ 16 * 0 + across 0 i = omega arith in
        ov.first i l ∙ turned_bit (across 0 i) ∙ ap (λ (a : ℕ). pattern_on cells (s.turn + a / s.bits)) z

    third : (i : ℕ) → i < 64 → bit over i ≡ pattern_on cells (s.turn + (16 * 8 + across 0 i) / s.bits)
    third i l = ov.first i l ∙ turned_bit (across 0 i) ∙ ap (λ (k : ℕ). bit cells (15 - k)) (again (across 0 i))

    abbrev Rule : ℕ → Bool → Bool
    Rule = stencilled s cells o

    -- the four words from word n of the stencil on
    part : (n lo hi cover over : ℕ) (ink : WideInk) {old new : List ℕ} → FourMixed (o + 2 * (s.word + n)) ink cover old new
        → FourCovers lo hi cover → hi ≤ 64 → Chosen s.fore s.back over ink
        → ((i : ℕ) → i < 64 → bit over i ≡ pattern_on cells (s.turn + (16 * n + across 0 i) / s.bits))
        → Stretched Rule o (16 * (s.word + n) + lo) (16 * (s.word + n) + hi) old new
    part n lo hi cover over ink p c h k e = four_stretched Rule o (s.word + n) lo hi cover ink p c h (mix_rule n k e)

    -- the stencil's first four words, and its last four of twelve
    first : {old t : List ℕ} (hi : ℕ) {a : WideInk} → FourMixed (o + 2 * s.word) a s.first old t → Chosen s.fore s.back over a
        → FourCovers s.lead hi s.first → hi ≤ 64 → Stretched Rule o (16 * s.word + s.lead) (16 * s.word + hi) old t
    first {old} {t} hi {a} p f c h =
        let e : s.word + 0 ≡ s.word = omega arith in
        let q : FourMixed (o + 2 * (s.word + 0)) a s.first old t = rw e p in
        rw e at (part 0 s.lead hi s.first over a q c h f low)

    last : {u new : List ℕ} {c : WideInk} → FourMixed (o + 2 * s.word + 16) c s.third u new → Chosen s.fore s.back over c
        → 128 ≤ s.end → Stretched Rule o (16 * s.word + 128) (16 * s.word + s.end) u new
    last {u} {new} {c} p f k =
        let e : o + 2 * s.word + 16 ≡ o + 2 * (s.word + 8) = omega arith in
        let x : 16 * (s.word + 8) + 0 ≡ 16 * s.word + 128 = omega arith in
        let y : 16 * (s.word + 8) + (s.end - 128) ≡ 16 * s.word + s.end = omega arith in
        let q : FourMixed (o + 2 * (s.word + 8)) c s.third u new = rw e at p in
        rw (x, y) at (part 8 0 (s.end - 128) s.third over c q us.third (omega (arith, us.end)) f third)

    -- all bits of the stencil, in four words
    pub in_four : {old new : List ℕ} {a : WideInk} → FourMixed (o + 2 * s.word) a s.first old new → Chosen s.fore s.back over a → s.end ≤ 64
        → Stretched Rule o (16 * s.word + s.lead) (16 * s.word + s.end) old new
    in_four p f h = first s.end p f us.first h

    module _ (after : ℕ) (lv : LastOver turned s.bits after) where
      high : (i : ℕ) → i < 64 → bit after i ≡ pattern_on cells (s.turn + (16 * 4 + across 0 i) / s.bits)
      high i l = lv.last i l ∙ turned_bit (across 0 (64 + i)) ∙ ap (λ (a : ℕ). pattern_on cells (s.turn + a / s.bits)) (across_on 4 i)

      -- its second four words
      second : {t u : List ℕ} (hi : ℕ) {b : WideInk} → FourMixed (o + 2 * s.word + 8) b s.second t u → Chosen s.fore s.back after b
          → FourCovers 0 hi s.second → hi ≤ 64 → Stretched Rule o (16 * s.word + 64) (16 * s.word + (64 + hi)) t u
      second {t} {u} hi {b} p f c h =
          let e : o + 2 * s.word + 8 ≡ o + 2 * (s.word + 4) = omega arith in
          let x : 16 * (s.word + 4) + 0 ≡ 16 * s.word + 64 = omega arith in
          let y : 16 * (s.word + 4) + hi ≡ 16 * s.word + (64 + hi) = omega arith in
          let q : FourMixed (o + 2 * (s.word + 4)) b s.second t u = rw e at p in
          rw (x, y) at (part 4 0 hi s.second after b q c h f high)

      -- .. in eight words or in twelve
      pub in_eight : {old t new : List ℕ} {a b : WideInk} → FourMixed (o + 2 * s.word) a s.first old t → Chosen s.fore s.back over a
          → FourMixed (o + 2 * s.word + 8) b s.second t new → Chosen s.fore s.back after b → 64 < s.end → s.end ≤ 128
          → Stretched Rule o (16 * s.word + s.lead) (16 * s.word + s.end) old new
      in_eight p f q g h k =
          let z : 64 + (s.end - 64) ≡ s.end = omega arith in
          stretched_then (first 64 p f (whole_cover us.first (omega arith)) (omega arith))
          (rw z at (second (s.end - 64) q g us.second (omega arith))) (omega (arith, us.lead)) (omega arith)

      pub in_twelve : {old t u new : List ℕ} {a b c : WideInk} → FourMixed (o + 2 * s.word) a s.first old t → Chosen s.fore s.back over a
          → FourMixed (o + 2 * s.word + 8) b s.second t u → Chosen s.fore s.back after b
          → FourMixed (o + 2 * s.word + 16) c s.third u new → Chosen s.fore s.back over c → 128 < s.end
          → Stretched Rule o (16 * s.word + s.lead) (16 * s.word + s.end) old new
      in_twelve p f q g r j h =
          stretched_then
          (stretched_then (first 64 p f (whole_cover us.first (omega arith)) (omega arith))
          (second 64 q g (whole_cover us.second (omega arith)) (omega arith)) (omega (arith, us.lead)) (omega arith))
          (last r j (omega arith)) (omega (arith, us.lead)) (omega arith)
