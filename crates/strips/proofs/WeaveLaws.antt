-- The strips of a pattern woven from two inks.
use Rattle.std.specs.Int.{w64, to_le_bytes}
use mathlib.Core.Path.{◌≡◌, refl, sym, ap, ap₂, ◌∙◌}
use mathlib.Core.Logic.{◌⊎◌, inl, inr}
use mathlib.Core.Bool.{Bool, true, false, cond, ◌&&◌}
use mathlib.Core.List.{List}
use Prim.Native.Nat.{ℕ, ◌+◌, ◌-◌, ◌*◌, ◌/◌, ◌%◌, ◌^◌, ◌≤◌, ◌<◌}
use native.Mathlib.Omega.{arith}
use native.Mathlib.Nat.{zero-add, add_comm, div-one}
use native.Mathlib.Decide.{ℕ_discrete, dec_lt}
use lib.Bits.{bit_xor}
use lib.ListN.{length, get_or, set, length-set}
use lib.Seq.{get_or-set_same, get_or-set_other}
use Rattle.model.specs.Words.{bit, num}
use Rattle.model.specs.declared.Pen.{Pen}
use Rattle.model.proofs.BitLaws.{bit_num, num_cong, bit_shr}
use Rattle.raster.proofs.BitLaws.{bit_zero, num_bit, differs}
use Rattle.raster.proofs.PlaceLaws.{xor_one}
use Rattle.raster.proofs.Table.{each}
use Rattle.strips.specs.declared.inks.Ink.{Ink}
use Rattle.strips.specs.Stretches.{across}
use Rattle.strips.specs.Strips.{mixed_bit, pen_bit, InkOf, column_of, keep_at, flip_at, Under, Put, woven_byte, StripOf, Wove}
use Rattle.strips.specs.Strips.{RotatedLeft, FirstOver, LastOver, Woven}

-- ## Bytes put

-- byte k of eight
pub le_byte : (x k : ℕ) → k < 8 → get_or (to_le_bytes w64 x) k 0 ≡ x / 2 ^ (8 * k) % 2 ^ 8
le_byte x k h =
    each 8 (λ k. get_or (to_le_bytes w64 x) k 0) (λ k. x / 2 ^ (8 * k) % 2 ^ 8) (rw (div-one x) refl) k h

-- ## A byte of a strip

across_byte : (k j : ℕ) → j < 8 → across 0 (8 * k + j) ≡ 8 * bit_xor k 1 + 7 - j
across_byte k j h = rw (xor_one k) (go k j h)
  where
    last : (k j : ℕ) → j < 8 → 16 * (k / 2) + (15 - (8 * (k % 2) + j)) ≡ 8 * (k / 2 * 2 + (1 - k % 2)) + 7 - j
    last k j h = omega arith

    go : (k j : ℕ) → j < 8 → across 0 (8 * k + j) ≡ 8 * (k / 2 * 2 + (1 - k % 2)) + 7 - j
    go k j h =
        let p : (8 * k + j - 8 * 0) / 16 ≡ k / 2 = omega arith in
        let q : (8 * k + j - 8 * 0) % 16 ≡ 8 * (k % 2) + j = omega arith in
        ap₂ (λ (d r : ℕ). 16 * d + (15 - r)) p q ∙ last k j h

-- byte `off + k` of a strip is byte k of one of its two parts
byte_is : (pattern bits t laid over fore back r off k : ℕ) → RotatedLeft pattern t laid → off % 2 ≡ 0
    → ((i : ℕ) → i < 64 → bit over i ≡ bit laid (15 - across 0 (8 * off + i) / bits % 16)) → Under over fore back r → k < 8
    → r / 2 ^ (8 * k) % 2 ^ 8 ≡ woven_byte pattern bits t fore back (off + k)
unfolding woven_byte
byte_is pattern bits t laid over fore back r off k tu e o u h = sym (num_bit 8 (r / 2 ^ (8 * k))) ∙ num_cong 8 _ _ (λ j l.
    let m : 8 * k + j < 64 = omega arith in
    let i : (8 * k + j) % 16 ≡ 8 * ((off + k) % 2) + j = omega arith in
    let a : 8 * off + (8 * k + j) ≡ 8 * (off + k) + j = omega arith in
    let q : across 0 (8 * off + (8 * k + j)) / bits ≡ column_of bits (off + k) j
    = ap (λ (z : ℕ). z / bits) (ap (across 0) a ∙ across_byte (off + k) j l) in
    bit_shr r (8 * k) j ∙ u (8 * k + j) m
    ∙ ap₂ (λ (v : Bool) (i : ℕ). bit (cond v fore back) i)
    (o (8 * k + j) m ∙ tu (across 0 (8 * off + (8 * k + j)) / bits)
    ∙ ap (λ (z : ℕ). bit pattern (15 - z % 16)) (ap (λ (z : ℕ). z + t) q ∙ add_comm (column_of bits (off + k) j) t)) i)

-- ## A strip

module _ (fore back : Ink) (pattern bits t laid first last : ℕ) (tu : RotatedLeft pattern t laid) (fo : FirstOver laid bits first)
    (lo : LastOver laid bits last) where
  low : (fore back r k : ℕ) → Under first fore back r → k < 8 → r / 2 ^ (8 * k) % 2 ^ 8 ≡ woven_byte pattern bits t fore back k
  low f b r k u h =
      byte_is pattern bits t laid first f b r 0 k tu refl
      (λ i l. fo.first i l ∙ ap (λ (m : ℕ). bit laid (15 - across 0 m / bits % 16)) (sym (zero-add i))) u h
      ∙ ap (woven_byte pattern bits t f b) (zero-add k)

  high : (fore back r k : ℕ) → Under last fore back r → k < 8 → r / 2 ^ (8 * k) % 2 ^ 8 ≡ woven_byte pattern bits t fore back (8 + k)
  high f b r k u h = byte_is pattern bits t laid last f b r 8 k tu refl lo.last u h

  module _ (x y z w : ℕ) (old s₁ s₂ s₃ new : List ℕ) (p₁ : Put 8 (32 * t) x old s₁) (p₂ : Put 8 (32 * t + 8) y s₁ s₂)
      (p₃ : Put 8 (32 * t + 16) z s₂ s₃) (p₄ : Put 8 (32 * t + 24) w s₃ new)
      (ux : Under first fore.keep back.keep x) (uy : Under last fore.keep back.keep y)
      (uz : Under first fore.flip back.flip z) (uw : Under last fore.flip back.flip w) where
    keep : (k : ℕ) → k < 16 → Dec (k < 8) → keep_at new t k ≡ woven_byte pattern bits t fore.keep back.keep k
    keep k h (yes l) =
        p₄.outside (32 * t + k) (inl (omega arith)) ∙ p₃.outside (32 * t + k) (inl (omega arith)) ∙ p₂.outside (32 * t + k) (inl (omega arith))
        ∙ p₁.inside k l ∙ low fore.keep back.keep x k ux l
    keep k h (no l) =
        let e : 32 * t + k ≡ 32 * t + 8 + (k - 8) = omega arith in
        let f : 8 + (k - 8) ≡ k = omega arith in
        p₄.outside (32 * t + k) (inl (omega arith)) ∙ p₃.outside (32 * t + k) (inl (omega arith)) ∙ ap (λ (i : ℕ). get_or s₂ i 0) e
        ∙ p₂.inside (k - 8) (omega arith) ∙ high fore.keep back.keep y (k - 8) uy (omega arith)
        ∙ ap (woven_byte pattern bits t fore.keep back.keep) f

    flip : (k : ℕ) → k < 16 → Dec (k < 8) → flip_at new t k ≡ woven_byte pattern bits t fore.flip back.flip k
    flip k h (yes l) =
        p₄.outside (32 * t + 16 + k) (inl (omega arith)) ∙ p₃.inside k l ∙ low fore.flip back.flip z k uz l
    flip k h (no l) =
        let e : 32 * t + 16 + k ≡ 32 * t + 24 + (k - 8) = omega arith in
        let f : 8 + (k - 8) ≡ k = omega arith in
        ap (λ (i : ℕ). get_or new i 0) e ∙ p₄.inside (k - 8) (omega arith) ∙ high fore.flip back.flip w (k - 8) uw (omega arith)
        ∙ ap (woven_byte pattern bits t fore.flip back.flip) f

    kept : (i : ℕ) → (i < 32 * t) ⊎ (32 * t + 32 ≤ i) → get_or new i 0 ≡ get_or old i 0
    kept i (inl l) =
        p₄.outside i (inl (omega arith)) ∙ p₃.outside i (inl (omega arith)) ∙ p₂.outside i (inl (omega arith)) ∙ p₁.outside i (inl l)
    kept i (inr l) =
        p₄.outside i (inr (omega arith)) ∙ p₃.outside i (inr (omega arith)) ∙ p₂.outside i (inr (omega arith))
        ∙ p₁.outside i (inr (omega arith))

    pub wove_is : Wove fore back pattern bits t old new
    wove_is =
        record {
          length = p₄.length ∙ p₃.length ∙ p₂.length ∙ p₁.length;
          strip = record { keeps = λ k h. keep k h (dec_lt k 8); flips = λ k h. flip k h (dec_lt k 8) };
          outside = kept;
        }

-- ## All strips

-- strips before t are woven
abbrev pub Strips : Ink → Ink → ℕ → ℕ → ℕ → List ℕ → Type 0
Strips fore back pattern bits t s = (u : ℕ) → u < t → StripOf fore back pattern bits u s

strip_kept : (fore back : Ink) (pattern bits u : ℕ) (old new : List ℕ)
    → ((i : ℕ) → 32 * u ≤ i → i < 32 * u + 32 → get_or new i 0 ≡ get_or old i 0) → StripOf fore back pattern bits u old
    → StripOf fore back pattern bits u new
strip_kept fore back pattern bits u old new h p =
    record {
      keeps = λ k l. h (32 * u + k) (omega arith) (omega arith) ∙ p.keeps k l;
      flips = λ k l. h (32 * u + 16 + k) (omega arith) (omega arith) ∙ p.flips k l;
    }

pub strips_next : (fore back : Ink) (pattern bits t : ℕ) (old new : List ℕ) → Strips fore back pattern bits t old
    → Wove fore back pattern bits t old new → Strips fore back pattern bits (t + 1) new
strips_next fore back pattern bits t old new p w u h = go (ℕ_discrete u t)
  where
    go : Dec (u ≡ t) → StripOf fore back pattern bits u new
    go (yes e) = rw e w.strip
    go (no d) = strip_kept fore back pattern bits u old new (λ i a b. w.outside i (inl (omega arith))) (p u (omega arith))

-- ## What the strips do

woven_bit : (pattern bits t fore back k j : ℕ) → j < 8
    → bit (woven_byte pattern bits t fore back k) j ≡ bit (cond (bit pattern (15 - (t + column_of bits k j) % 16)) fore back) (8 * (k % 2) + j)
unfolding woven_byte
woven_bit pattern bits t fore back k j h =
    bit_num 8 (λ j. bit (cond (bit pattern (15 - (t + column_of bits k j) % 16)) fore back) (8 * (k % 2) + j)) j h

pub inked : (pen : Pen) (fore back : Ink) → InkOf pen true fore → InkOf pen false back → (on : Bool) (i : ℕ) → i < 16 → (d : Bool)
    → mixed_bit (cond on fore.keep back.keep) (cond on fore.flip back.flip) i d ≡ pen_bit pen on i d
inked pen fore back f b true i h d = f.bits i h d
inked pen fore back f b false i h d = b.bits i h d

strip_mixes : (pen : Pen) (fore back : Ink) (pattern bits : ℕ) (s : List ℕ) → InkOf pen true fore → InkOf pen false back
    → Strips fore back pattern bits 16 s → (t k j : ℕ) → t < 16 → k < 16 → j < 8 → (d : Bool)
    → mixed_bit (keep_at s t k) (flip_at s t k) j d ≡ pen_bit pen (bit pattern (15 - (t + column_of bits k j) % 16)) (8 * (k % 2) + j) d
strip_mixes pen fore back pattern bits s f b p t k j ht hk hj d =
    ap₂ (λ (x y : Bool). differs (d && x) y)
    (ap (λ (z : ℕ). bit z j) ((p t ht).keeps k hk) ∙ woven_bit pattern bits t fore.keep back.keep k j hj)
    (ap (λ (z : ℕ). bit z j) ((p t ht).flips k hk) ∙ woven_bit pattern bits t fore.flip back.flip k j hj)
    ∙ inked pen fore back f b (bit pattern (15 - (t + column_of bits k j) % 16)) (8 * (k % 2) + j) (omega arith) d

-- where no ink keeps a bit, no strip does
bare_byte : (pattern bits t k : ℕ) → woven_byte pattern bits t 0 0 k ≡ 0
unfolding woven_byte num
bare_byte pattern bits t k = num_cong 8 _ (λ j. false) (λ j h.
    ap (λ (z : ℕ). bit z (8 * (k % 2) + j)) (same (bit pattern (15 - (t + column_of bits k j) % 16))) ∙ bit_zero (8 * (k % 2) + j))
  where
    same : (v : Bool) → ◌≡◌ {A = ℕ} (cond v 0 0) 0
    same true = refl
    same false = refl

strip_bare : (fore back : Ink) (pattern bits : ℕ) (s : List ℕ) → Strips fore back pattern bits 16 s → (fore.keep ≡ 0) × (back.keep ≡ 0)
    → (t k : ℕ) → t < 16 → k < 16 → keep_at s t k ≡ 0
strip_bare fore back pattern bits s p e t k ht hk =
    (p t ht).keeps k hk ∙ ap₂ (λ (f b : ℕ). woven_byte pattern bits t f b k) e.0 e.1 ∙ bare_byte pattern bits t k

-- the whole table: its strips, then how many pixels a word has, and whether no old bit is kept
pub woven_is : (pen : Pen) (fore back : Ink) (pattern bits per bare : ℕ) (s : List ℕ) → InkOf pen true fore → InkOf pen false back → length s ≡ 514
    → Strips fore back pattern bits 16 s → per * bits ≡ 16 → (bare ≡ 1 → (fore.keep ≡ 0) × (back.keep ≡ 0))
    → Woven pen pattern bits (set (set s 512 per) 513 bare)
woven_is pen fore back pattern bits per bare s f b n p q r =
    record {
      length = m ∙ n;
      per = ap (λ (z : ℕ). z * bits)
          (get_or-set_other (set s 512 per) 513 512 bare 0 (λ e. omega arith) ∙ get_or-set_same s 512 per 0 (omega arith))
          ∙ q;
      mixes = strip_mixes pen fore back pattern bits (set (set s 512 per) 513 bare) f b strips;
      bare = λ e. strip_bare fore back pattern bits (set (set s 512 per) 513 bare) strips
          (r (sym (get_or-set_same (set s 512 per) 513 bare 0 (omega (arith, length-set s 512 per))) ∙ e));
    }
  where
    m : length (set (set s 512 per) 513 bare) ≡ length s
    m = length-set (set s 512 per) 513 bare ∙ length-set s 512 per

    strips : Strips fore back pattern bits 16 (set (set s 512 per) 513 bare)
    strips u h = strip_kept fore back pattern bits u s (set (set s 512 per) 513 bare)
        (λ i x y. get_or-set_other (set s 512 per) 513 i bare 0 (λ e. omega arith) ∙ get_or-set_other s 512 i per 0 (λ e. omega arith)) (p u h)
