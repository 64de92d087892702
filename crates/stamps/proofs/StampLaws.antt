-- Stamps: how a table of them is made, and that a pixel stamped is the pixel blended with what the pattern's bit puts down.
use mathlib.Core.Path.{◌≡◌, refl, sym, ap, ap₂, ◌∙◌}
use mathlib.Core.Logic.{◌⊎◌, inl, inr}
use mathlib.Core.Bool.{Bool, true, false, cond, ◌&&◌}
use mathlib.Core.List.{List}
use Prim.Native.Nat.{ℕ, ◌+◌, ◌-◌, ◌*◌, ◌/◌, ◌%◌, ◌^◌, ◌≤◌, ◌<◌}
use native.Mathlib.Omega.{arith}
use native.Mathlib.Decide.{dec_lt}
use native.Mathlib.Nat.{lt_of_le_of_lt}
use borrow.Author.Tests.{leb-true}
use lib.Bits.{bit_and, bit_xor, xor_lt, and_le_l}
use lib.Dec.{leb, ltb}
use lib.ListN.{length, get_or, set}
use lib.Seq.{set-get_or}
use Rattle.model.specs.Words.{bit, digit, within}
use Rattle.model.specs.Bitmaps.{place_shift, Depth}
use Rattle.model.specs.Operations.{new_bit}
use Rattle.model.specs.Pixels.{pen_source, source_bit, blend, change}
use Rattle.model.specs.Dots.{something}
use Rattle.model.specs.declared.Surface.{Surface}
use Rattle.model.specs.declared.Pen.{Pen}
use Rattle.model.specs.declared.Source.{Source}
use Rattle.model.proofs.BitLaws.{num_cong, bit_shr}
use Rattle.model.proofs.CodeLaws.{blend_byte}
use Rattle.model.proofs.Decisions.{split, both_true}
use Rattle.raster.specs.Operations.{bit_field}
use Rattle.raster.specs.Place.{Drawable}
use Rattle.raster.specs.Pixels.{blending}
use Rattle.raster.proofs.BitLaws.{bit_zero, bit_mod, differs, field_bit, num_self}
use Rattle.raster.proofs.BlendLaws.{change_at, place_in}
use Rattle.raster.proofs.ChangeLaws.{replaced}
use Rattle.raster.proofs.PlaceLaws.{xor_one, pixel_place, place_lies}
use Rattle.raster.proofs.Table.{tabulate, each}
use Rattle.strips.specs.Strips.{mixed, mixed_bit, pen_bit, InkOf, Put, Muxed}
use Rattle.strips.specs.declared.inks.Ink.{Ink}
use Rattle.strips.proofs.BitParts.{bit_low, bit_high, byte_bit, fourfold, either}
use Rattle.strips.proofs.EdgeLaws.{mixed_bit_lem}
use Rattle.strips.proofs.FieldBits.{Bytes}
use Rattle.strips.proofs.PatternLaws.{depth_8, depth_elim}
use Rattle.stamps.specs.Stamps.{of_pixel, word_bit, CoverOf, Covered, kept_at, flipped_at, Pressed, StampsOf, stamp_byte, stamped}

-- ## Eight bytes at once

-- the bits of a cover for pixels of b bits, n to a word, all of them computed
pub cover_bits : (b cover n : ℕ) → tabulate n (λ q. tabulate 8 (λ j. bit cover (8 * (q * b % 8) + j))) ≡ tabulate n (λ q. tabulate 8 (of_pixel b (q * b)))
    → ((q : ℕ) → q * b < 16 → q < n) → CoverOf b cover
cover_bits b cover n e h = record {
  bits = λ q j l k.
      each 8 (λ j. bit cover (8 * (q * b % 8) + j)) (of_pixel b (q * b))
      (each n (λ q. tabulate 8 (λ j. bit cover (8 * (q * b % 8) + j))) (λ q. tabulate 8 (of_pixel b (q * b))) e q (h q l)) j k;
}

-- at each depth
pub cover_1 : CoverOf 1 0x0102040810204080
unfolding bit
cover_1 = cover_bits 1 _ 16 refl (λ q l. omega arith)

pub cover_2 : CoverOf 2 0x0003000C003000C0
unfolding bit
cover_2 = cover_bits 2 _ 8 refl (λ q l. omega arith)

pub cover_4 : CoverOf 4 0x0000000F000000F0
unfolding bit
cover_4 = cover_bits 4 _ 4 refl (λ q l. omega arith)

-- .. that is none of the others
pub cover_else : {b : ℕ} → Depth b → (b ≡ 1 → ⊥) → (b ≡ 2 → ⊥) → (b ≡ 4 → ⊥) → CoverOf b 0xFF
unfolding bit
cover_else d m n o = rw (depth_8 d m n o) (cover_bits 8 _ 2 refl (λ q l. omega arith))

pub ruleset covers = (cover_1, cover_2, cover_4, cover_else)

-- a byte eight times
eightfold : (b i : ℕ) → b < 256 → i < 64 → bit (b * 0x0101010101010101) i ≡ bit b (i % 8)
eightfold b i h l =
    let e : b * 0x0101010101010101 ≡ (b + 256 * b) * 0x0001000100010001 = omega arith in
    ap (λ (z : ℕ). bit z i) e ∙ fourfold (b + 256 * b) (omega arith) i l ∙ go (dec_lt (i % 16) 8)
  where
    go : Dec (i % 16 < 8) → bit (b + 256 * b) (i % 16) ≡ bit b (i % 8)
    go (yes k) = let z : i % 16 ≡ i % 8 = omega arith in bit_low 8 b b h (i % 16) k ∙ ap (bit b) z
    go (no k) = let z : i % 16 - 8 ≡ i % 8 = omega arith in bit_high 8 b b h (i % 16) (omega arith) ∙ ap (bit b) z

pub covered_is : (cover rest byte r : ℕ) → byte < 256 → Muxed cover rest (byte * 0x0101010101010101) r → Covered cover rest byte r
covered_is cover rest byte r h e = record {
  bits = λ i l.
      e i ∙ sym (either (bit cover i) (byte * 0x0101010101010101) rest i)
      ∙ ap (λ (z : Bool). cond (bit cover i) z (bit rest i)) (eightfold byte i h l);
}

-- ## The table

kept_bit : (d : Bool) → differs (d && true) false ≡ d
kept_bit true = refl
kept_bit false = refl

all_ones : (i : ℕ) → i < 64 → bit 0xFFFFFFFFFFFFFFFF i ≡ true
unfolding bit
all_ones i h = each 64 (bit 0xFFFFFFFFFFFFFFFF) (λ i. true) refl i h

-- byte k of eight that are kept, and of eight that are flipped, under a cover
made : (ink : Ink) (cover half k : ℕ) (x y : ℕ) {keep flip : ℕ} → k < 8 → Covered cover 0xFFFFFFFFFFFFFFFF keep x → Covered cover 0 flip y
    → keep ≡ bit_field ink.keep (8 * half) 8 → flip ≡ bit_field ink.flip (8 * half) 8 → (j : ℕ) → j < 8 → (d : Bool)
    → mixed_bit (x / 2 ^ (8 * k) % 2 ^ 8) (y / 2 ^ (8 * k) % 2 ^ 8) j d
    ≡ cond (bit cover (8 * k + j)) (mixed_bit ink.keep ink.flip (8 * half + j) d) d
made ink cover half k x y {keep} {flip} h p q e f j l d =
    ap₂ (λ (a b : Bool). differs (d && a) b) kept flipped ∙ choice (bit cover (8 * k + j))
  where
    same : (8 * k + j) % 8 ≡ j
    same = omega arith

    kept : bit (x / 2 ^ (8 * k) % 2 ^ 8) j ≡ cond (bit cover (8 * k + j)) (bit ink.keep (8 * half + j)) true
    kept =
        byte_bit x k j l ∙ p.bits (8 * k + j) (omega arith)
        ∙ ap₂ (cond (bit cover (8 * k + j))) (ap (bit keep) same ∙ ap (λ (z : ℕ). bit z j) e ∙ field_bit ink.keep (8 * half) 8 j l)
        (all_ones (8 * k + j) (omega arith))

    flipped : bit (y / 2 ^ (8 * k) % 2 ^ 8) j ≡ cond (bit cover (8 * k + j)) (bit ink.flip (8 * half + j)) false
    flipped =
        byte_bit y k j l ∙ q.bits (8 * k + j) (omega arith)
        ∙ ap₂ (cond (bit cover (8 * k + j))) (ap (bit flip) same ∙ ap (λ (z : ℕ). bit z j) f ∙ field_bit ink.flip (8 * half) 8 j l) (bit_zero (8 * k + j))

    choice : (w : Bool) → differs (d && cond w (bit ink.keep (8 * half + j)) true) (cond w (bit ink.flip (8 * half + j)) false)
        ≡ cond w (mixed_bit ink.keep ink.flip (8 * half + j) d) d
    choice true = refl
    choice false = kept_bit d

-- eight bytes put four times
module _ (ink : Ink) (cover at x₁ x₂ x₃ x₄ : ℕ) {old a b c new : List ℕ} (p : Put 8 at x₁ old a) (q : Put 8 (at + 8) x₂ a b) (r : Put 8 (at + 32) x₃ b c)
    (s : Put 8 (at + 40) x₄ c new) where
  first : (k : ℕ) → k < 8 → get_or new (at + k) 0 ≡ x₁ / 2 ^ (8 * k) % 2 ^ 8
  first k h =
      s.outside (at + k) (inl (omega arith)) ∙ r.outside (at + k) (inl (omega arith)) ∙ q.outside (at + k) (inl (omega arith)) ∙ p.inside k h

  second : (k : ℕ) → k < 8 → get_or new (at + 8 + k) 0 ≡ x₂ / 2 ^ (8 * k) % 2 ^ 8
  second k h = s.outside (at + 8 + k) (inl (omega arith)) ∙ r.outside (at + 8 + k) (inl (omega arith)) ∙ q.inside k h

  third : (k : ℕ) → k < 8 → get_or new (at + 32 + k) 0 ≡ x₃ / 2 ^ (8 * k) % 2 ^ 8
  third k h = s.outside (at + 32 + k) (inl (omega arith)) ∙ r.inside k h

  others : (i : ℕ) → (i < at) ⊎ (at + 16 ≤ i) → (i < at + 32) ⊎ (at + 48 ≤ i) → get_or new i 0 ≡ get_or old i 0
  others i (inl h) g =
      s.outside i (inl (omega arith)) ∙ r.outside i (inl (omega arith)) ∙ q.outside i (inl (omega arith)) ∙ p.outside i (inl h)
  others i (inr h) (inl g) =
      s.outside i (inl (omega arith)) ∙ r.outside i (inl g) ∙ q.outside i (inr (omega arith)) ∙ p.outside i (inr (omega arith))
  others i (inr h) (inr g) =
      s.outside i (inr (omega arith)) ∙ r.outside i (inr (omega arith)) ∙ q.outside i (inr (omega arith)) ∙ p.outside i (inr (omega arith))

  pub pressed_is : {k₁ k₀ f₁ f₀ : ℕ} → Covered cover 0xFFFFFFFFFFFFFFFF k₁ x₁ → Covered cover 0xFFFFFFFFFFFFFFFF k₀ x₂ → Covered cover 0 f₁ x₃
      → Covered cover 0 f₀ x₄ → k₁ ≡ bit_field ink.keep (8 * 1) 8 → k₀ ≡ bit_field ink.keep (8 * 0) 8 → f₁ ≡ bit_field ink.flip (8 * 1) 8
      → f₀ ≡ bit_field ink.flip (8 * 0) 8 → Pressed ink cover at old new
  pressed_is c₁ c₂ c₃ c₄ e₁ e₂ e₃ e₄ = record {
    length = s.length ∙ r.length ∙ q.length ∙ p.length;
    mixes = λ o j l k d. go o j l k d (dec_lt o 8);
    outside = others;
  }
    where
      go : (o j : ℕ) → o < 16 → j < 8 → (d : Bool) → Dec (o < 8)
          → mixed_bit (get_or new (at + o) 0) (get_or new (at + o + 32) 0) j d
          ≡ cond (bit cover (8 * (o % 8) + j)) (mixed_bit ink.keep ink.flip (word_bit o j) d) d
      go o j l k d (yes h) =
          let z : at + o + 32 ≡ at + 32 + o = omega arith in
          let m : o % 8 ≡ o = omega arith in
          let w : 1 - o / 8 ≡ 1 = omega arith in
          rw (z, first o h, third o h, m, w) (made ink cover 1 o x₁ x₃ h c₁ c₃ e₁ e₃ j k d)
      go o j l k d (no h) =
          let y : at + o ≡ at + 8 + (o - 8) = omega arith in
          let z : at + 8 + (o - 8) + 32 ≡ at + 40 + (o - 8) = omega arith in
          let m : o % 8 ≡ o - 8 = omega arith in
          let w : 1 - o / 8 ≡ 0 = omega arith in
          let g : o - 8 < 8 = omega arith in
          rw (y, z, second (o - 8) g, s.inside (o - 8) g, m, w) (made ink cover 0 (o - 8) x₂ x₄ g c₂ c₄ e₂ e₄ j k d)

-- the stamps of both inks are the pen's
pub stamps_are : (pen : Pen) (fore back : Ink) (b cover : ℕ) {old s t : List ℕ} → InkOf pen true fore → InkOf pen false back → CoverOf b cover
    → length old ≡ 64 → Pressed back cover 0 old s → Pressed fore cover 16 s t → StampsOf pen b t
stamps_are pen fore back b cover {old} {s} {t} f g c l p q = record { length = q.length ∙ p.length ∙ l; mixes = mixes }
  where
    by : (ink : Ink) (on : Bool) (o j n : ℕ) → InkOf pen on ink → o < 16 → j < 8 → (d : Bool) → bit cover (8 * (o % 8) + j) ≡ of_pixel b o j
        → mixed_bit (get_or t n 0) (get_or t (n + 32) 0) j d ≡ cond (bit cover (8 * (o % 8) + j)) (mixed_bit ink.keep ink.flip (word_bit o j) d) d
        → mixed_bit (get_or t n 0) (get_or t (n + 32) 0) j d ≡ cond (of_pixel b o j) (pen_bit pen on (word_bit o j) d) d
    by ink on o j n i h k d e m =
        m ∙ ap₂ (λ (w v : Bool). cond w v d) e (i.bits (word_bit o j) (omega arith) d)

    kept : (n : ℕ) → n < 16 → get_or t n 0 ≡ get_or s n 0
    kept n h = q.outside n (inl h) (inl (omega arith))

    still : (n : ℕ) → n < 16 → get_or t (n + 32) 0 ≡ get_or s (n + 32) 0
    still n h = q.outside (n + 32) (inr (omega arith)) (inl (omega arith))

    mixes : (on : Bool) (q j : ℕ) → q * b < 16 → j < 8 → (d : Bool)
        → mixed_bit (kept_at t (digit on) (q * b)) (flipped_at t (digit on) (q * b)) j d ≡ cond (of_pixel b (q * b) j) (pen_bit pen on (word_bit (q * b) j) d) d
    mixes true n j h k d = by fore true (n * b) j (16 * 1 + n * b) f h k d (c.bits n j h k) (q.mixes (n * b) j h k d)
    mixes false n j h k d =
        let z : 16 * 0 + n * b ≡ 0 + n * b = omega arith in
        let y : 0 + n * b ≡ n * b = omega arith in
        rw z (by back false (n * b) j (0 + n * b) g h k d (c.bits n j h k)
        (rw y (rw (kept (n * b) h, still (n * b) h) (rw y at (p.mixes (n * b) j h k d)))))

-- ## One pixel

-- where a pixel lies in its word, from the left: a whole number of pixels
word_offset : {b : ℕ} → Depth b → (c : ℕ) → c % (16 / b) * b ≡ c * b % 16
word_offset = depth_elim (λ b. (c : ℕ) → c % (16 / b) * b ≡ c * b % 16)
    (λ c. omega arith) (λ c. omega arith) (λ c. omega arith) (λ c. omega arith)

-- a word's first eight bits, from the left, are its high byte
other_half : (z : ℕ) → 1 - z % 16 / 8 ≡ bit_xor (z / 8) 1 % 2
other_half z =
    let a : z % 16 / 8 ≡ z / 8 % 2 = omega arith in
    let b : 1 - z / 8 % 2 ≡ (z / 8 / 2 * 2 + (1 - z / 8 % 2)) % 2 = omega arith in
    rw (a, xor_one (z / 8)) b

mixed_lt : (old keep flip : ℕ) → old < 2 ^ 8 → flip < 2 ^ 8 → mixed old keep flip < 2 ^ 8
mixed_lt old keep flip h k = xor_lt 8 (bit_and old keep) flip (lt_of_le_of_lt (and_le_l old keep) h) k

-- what the pattern's bit puts down makes of a bit of the word what the pen does
put_down : (pen : Pen) (on : Bool) (shift k i : ℕ) (v : Bool) → shift + k ≡ i → something (pen_source pen pen.transparent on) ≡ true
    → pen_bit pen on i v ≡ new_bit pen.op (bit pen.mask i) (source_bit (pen_source pen pen.transparent on) shift k) v
put_down pen true shift k i v e h = rw e refl
put_down pen false shift k i v e h = split pen.transparent
    (λ f. absurd (let n : ◌≡◌ {A = ℕ} 0 1 = ap digit (rw f at h) in (let q : ⊥ = omega arith in q)))
    (λ f. rw (f, e) refl)

-- .. and where it puts nothing down, nothing
put_none : (pen : Pen) (on : Bool) (i : ℕ) (v : Bool) → something (pen_source pen pen.transparent on) ≡ false → pen_bit pen on i v ≡ v
put_none pen true i v h = absurd (let n : ◌≡◌ {A = ℕ} 1 0 = ap digit h in (let q : ⊥ = omega arith in q))
put_none pen false i v h = split pen.transparent
    (λ f. rw f refl)
    (λ f. absurd (let n : ◌≡◌ {A = ℕ} 1 0 = ap digit (rw f at h) in (let q : ⊥ = omega arith in q)))

cond_same : (w v : Bool) → cond w v v ≡ v
cond_same true v = refl
cond_same false v = refl

module _ (u : Surface) (pen : Pen) (s buffer : List ℕ) (x y : ℕ) (d : Drawable u buffer x y) (t : StampsOf pen u.bits s)
    (small : Bytes s) (bytes : Bytes buffer) (on : Bool) where
  -- the bits of its row before the pixel
  abbrev before : ℕ
  before = (u.left + x) * u.bits

  -- the byte at which its row begins
  abbrev row : ℕ
  row = u.base + 2 * (u.words * (u.top + y))

  abbrev old : ℕ
  old = get_or buffer (stamp_byte row before) 0

  abbrev keep : ℕ
  keep = kept_at s (digit on) (before % 16)

  abbrev flip : ℕ
  flip = flipped_at s (digit on) (before % 16)

  abbrev shift : ℕ
  shift = 8 - u.bits - before % 8

  abbrev half : ℕ
  half = bit_xor (before / 8) 1 % 2

  abbrev source : Source
  source = pen_source pen pen.transparent on

  stamp_bit : (i : ℕ) → i < 8 → bit (mixed old keep flip) i ≡ cond (within shift u.bits i) (pen_bit pen on (8 * half + i) (bit old i)) (bit old i)
  stamp_bit i l =
      let e : (u.left + x) % (16 / u.bits) * u.bits ≡ before % 16 = word_offset d.fits.depth (u.left + x) in
      let m : before % 16 % 8 ≡ before % 8 = omega arith in
      let h : 1 - before % 16 / 8 ≡ bit_xor (before / 8) 1 % 2 = other_half before in
      mixed_bit_lem old keep flip i
      ∙ (rw (e, m, h) at (t.mixes on ((u.left + x) % (16 / u.bits)) i (omega arith) l (bit old i)))

  byte_blended : something source ≡ true → mixed old keep flip ≡ replaced shift u.bits (blend u.bits (8 * half + shift) pen source) old
  unfolding bit_field
  byte_blended h =
      sym (num_self 8 (mixed_lt old keep flip (bytes (stamp_byte row before)) (small (16 * digit on + before % 16 + 32))))
      ∙ num_cong 8 _ _ each
      ∙ sym (blend_byte old shift half u.bits pen source)
    where
      each : (i : ℕ) → i < 8 → bit (mixed old keep flip) i
          ≡ cond (within shift u.bits i) (new_bit pen.op (bit pen.mask (8 * half + i)) (source_bit source (8 * half + shift) (i - shift)) (bit old i))
          (bit old i)
      each i l = stamp_bit i l ∙ split (within shift u.bits i)
          (λ w.
          let k = both_true (leb shift i) (ltb i (shift + u.bits)) w in
          let g = leb-true shift i k.0 in
          let e : 8 * half + shift + (i - shift) ≡ 8 * half + i = omega arith in
          rw w (put_down pen on (8 * half + shift) (i - shift) (8 * half + i) (bit old i) e h))
          (λ w. rw w refl)

  byte_kept : something source ≡ false → mixed old keep flip ≡ old
  byte_kept h =
      sym (num_self 8 (mixed_lt old keep flip (bytes (stamp_byte row before)) (small (16 * digit on + before % 16 + 32))))
      ∙ num_cong 8 _ _ (λ i l. stamp_bit i l ∙ ap (λ (v : Bool). cond (within shift u.bits i) v (bit old i)) (put_none pen on (8 * half + i) (bit old i) h)
      ∙ cond_same (within shift u.bits i) (bit old i))
      ∙ num_self 8 (bytes (stamp_byte row before))

  -- a pixel stamped is the pixel blended with what the pattern's bit puts down
  pub stamped_change : (r o k : ℕ) → r ≡ row → o ≡ before → k ≡ digit on
      → stamped s r o k buffer ≡ cond (something source) (change u (blending u pen source x y) buffer) buffer
  unfolding stamped
  stamped_change r o k p q n = rw (p, q, n) (split (something source)
      (λ h.
      let w = place_lies u x y d.fits.depth in
      ap (set buffer (stamp_byte row before)) (byte_blended h)
      ∙ ap (λ (v : ℕ). set buffer (stamp_byte row before) (replaced shift u.bits (blend u.bits v pen source) old)) w.word
      ∙ sym (change_at u buffer x y d (pixel_place u x y) w (blend u.bits (place_shift u x) pen source))
      ∙ rw h refl)
      (λ h. ap (set buffer (stamp_byte row before)) (byte_kept h) ∙ set-get_or buffer (stamp_byte row before) 0 ∙ rw h refl))

  -- its byte lies in the buffer
  pub stamp_in : (r o : ℕ) → r ≡ row → o ≡ before → stamp_byte r o < length buffer
  stamp_in r o p q = rw (p, q) (place_in u buffer x y d (pixel_place u x y) (place_lies u x y d.fits.depth))
