-- A buffer is its bits: one field written, one pixel blended, and two buffers of bytes with equal bits.
use mathlib.Core.Path.{◌≡◌, refl, sym, ap, ◌∙◌}
use mathlib.Core.Logic.{◌⊎◌}
use mathlib.Core.List.{List, [], ◌∷◌}
use Prim.Native.Nat.{ℕ, ◌+◌, ◌*◌, ◌/◌, ◌%◌, ◌^◌, ◌≤◌, ◌<◌}
use native.Mathlib.Omega.{arith}
use native.Mathlib.Decide.{ℕ_discrete, dec_lt}
use lib.ListN.{length, get_or, set}
use lib.Seq.{get_or-set_same, get_or-set_other, set_out, ext_get_or}
use Rattle.model.specs.Words.{bit, bit_at, field_at, splice, put_field}
use Rattle.model.specs.Operations.{new_bit}
use Rattle.model.specs.Bitmaps.{place_bit, place_shift, inside, pixels, Fits}
use Rattle.model.specs.Pixels.{Change, source_bit, blend, change, changes}
use Rattle.model.specs.declared.Surface.{Surface}
use Rattle.model.specs.declared.Pen.{Pen}
use Rattle.model.specs.declared.Source.{Source}
use Rattle.model.proofs.BitLaws.{bit_num, num_cong}
use Rattle.model.proofs.Decisions.{cond_true, cond_ind}
use Rattle.model.proofs.FieldLaws.{put_keeps, put_field_lem}
use Rattle.model.proofs.PixelLaws.{inside_of, pixels_in}
use Rattle.raster.specs.Pixels.{blending}
use Rattle.raster.proofs.BitLaws.{num_lt, num_self}
use Rattle.raster.proofs.ChangeLaws.{bit_fits, byte_fits}

-- ## Bits of bytes, bits of fields

pub bit_at_byte : (s : List ℕ) (i j : ℕ) → j < 8 → bit_at s (8 * i + j) ≡ bit (get_or s i 0) j
unfolding bit_at
bit_at_byte s i j h =
    let q : (8 * i + j) / 8 ≡ i = omega arith in
    let r : (8 * i + j) % 8 ≡ j = omega arith in
    rw (q, r)

pub field_bit_at : (s : List ℕ) (n b j : ℕ) → n % 8 + b ≤ 8 → j < b → bit (field_at s n b) j ≡ bit_at s (n + j)
unfolding field_at bit_at
field_bit_at s n b j f h =
    let q : (n + j) / 8 ≡ n / 8 = omega arith in
    let r : (n + j) % 8 ≡ n % 8 + j = omega arith in
    bit_num b (λ i. bit (get_or s (n / 8) 0) (n % 8 + i)) j h ∙ rw (q, r) refl

put_bit : (s : List ℕ) (n b v j : ℕ) → n / 8 < length s → n % 8 + b ≤ 8 → j < b → bit_at (put_field s n b v) (n + j) ≡ bit v j
put_bit s n b v j r f h =
    sym (field_bit_at (put_field s n b v) n b j f h) ∙ ap (λ (z : ℕ). bit z j) (put_field_lem s n b v r f) ∙ bit_num b (bit v) j h

-- ## One pixel blended

module _ (u : Surface) (pen : Pen) (source : Source) (x y : ℕ) (s : List ℕ) (f : Fits u s) (h : x < u.width) (k : y < u.height) where
  blending_made : change u (blending u pen source x y) s
      ≡ put_field s (place_bit u x y) u.bits (blend u.bits (place_shift u x) pen source (pixels u s x y))
  unfolding change
  blending_made = cond_true _ _ (inside_of u x y h k)

  pub blending_bit : (j : ℕ) → j < u.bits → bit_at (change u (blending u pen source x y) s) (place_bit u x y + j)
      ≡ new_bit pen.op (bit pen.mask (place_shift u x + j)) (source_bit source (place_shift u x) j) (bit_at s (place_bit u x y + j))
  unfolding blend
  blending_bit j l =
      ap (λ (t : List ℕ). bit_at t (place_bit u x y + j)) blending_made
      ∙ put_bit s (place_bit u x y) u.bits (blend u.bits (place_shift u x) pen source (pixels u s x y)) j (byte_fits u s f x y h k) (bit_fits u s f x y) l
      ∙ bit_num u.bits (λ i. new_bit pen.op (bit pen.mask (place_shift u x + i)) (source_bit source (place_shift u x) i) (bit (pixels u s x y) i)) j l
      ∙ ap (new_bit pen.op (bit pen.mask (place_shift u x + j)) (source_bit source (place_shift u x) j))
      (ap (λ (z : ℕ). bit z j) (pixels_in u s x y (inside_of u x y h k)) ∙ field_bit_at s (place_bit u x y) u.bits j (bit_fits u s f x y) l)

  pub blending_keeps : (m : ℕ) → (m < place_bit u x y) ⊎ (place_bit u x y + u.bits ≤ m) → bit_at (change u (blending u pen source x y) s) m ≡ bit_at s m
  blending_keeps m o =
      ap (λ (t : List ℕ). bit_at t m) blending_made
      ∙ put_keeps s (place_bit u x y) u.bits (blend u.bits (place_shift u x) pen source (pixels u s x y)) m (byte_fits u s f x y h k) (bit_fits u s f x y) o

-- ## Buffers of bytes

-- every element is a byte
abbrev pub Bytes : List ℕ → Type 0
Bytes s = (i : ℕ) → get_or s i 0 < 2 ^ 8

bytes_set : (s : List ℕ) (i v : ℕ) → v < 2 ^ 8 → Bytes s → Bytes (set s i v)
bytes_set s i v h b j = go (ℕ_discrete j i) (dec_lt i (length s))
  where
    go : Dec (j ≡ i) → Dec (i < length s) → get_or (set s i v) j 0 < 2 ^ 8
    go (no n) _ = rw (get_or-set_other s i j v 0 n) (b j)
    go (yes e) (yes l) = rw (e, get_or-set_same s i v 0 l) h
    go (yes e) (no l) = let q : length s ≤ i = omega arith in rw (set_out s i v q) (b j)

change_bytes : (u : Surface) (c : Change) (s : List ℕ) → Bytes s → Bytes (change u c s)
unfolding change put_field splice
change_bytes u c s b = cond_ind Bytes (inside u c.x c.y) _ _ (λ e. bytes_set s _ _ (num_lt 8 _) b) (λ e. b)

pub changes_bytes : (u : Surface) (cs : List Change) (s : List ℕ) → Bytes s → Bytes (changes u cs s)
unfolding changes
changes_bytes u [] s b = b
changes_bytes u (c ∷ cs) s b = changes_bytes u cs (change u c s) (change_bytes u c s b)

-- two buffers of bytes, equally long, with equal bits
pub same_buffers : (s t : List ℕ) → length s ≡ length t → Bytes s → Bytes t → ((m : ℕ) → bit_at s m ≡ bit_at t m) → s ≡ t
same_buffers s t l a b e = ext_get_or 0 s t l λ i h.
    sym (num_self 8 (a i))
    ∙ num_cong 8 (bit (get_or s i 0)) (bit (get_or t i 0)) (λ j k. sym (bit_at_byte s i j k) ∙ e (8 * i + j) ∙ bit_at_byte t i j k)
    ∙ num_self 8 (b i)
