-- Bytes mixed, (old & keep) ^ flip: by a strip of 16, by the table of a pattern's strips.
use Rattle.std.specs.Prelude.{◌≡◌, ◌⊎◌, Bool, true, false, cond, ◌&&◌, List, ℕ, ◌+◌, ◌-◌, ◌*◌, ◌/◌, ◌%◌, ◌^◌, ◌≤◌, ◌<◌}
use Rattle.std.specs.Prelude.{length, get_or}
use Rattle.std.specs.Int.Bits.{bit_and, bit_xor}
use Rattle.model.specs.Words.{bit, num}
use Rattle.model.specs.Operations.{new_bit}
use Rattle.model.specs.Bitmaps.{Fits}
use Rattle.model.specs.declared.Surface.{Surface}
use Rattle.model.specs.declared.Pen.{Pen}
use Rattle.raster.proofs.BitLaws.{differs}
use Rattle.strips.specs.Stretches.{across}
use Rattle.strips.specs.declared.inks.Ink.{Ink}
use Rattle.strips.specs.declared.inks.Mix.{Mix}

-- (old & keep) ^ flip
abbrev pub mixed : ℕ → ℕ → ℕ → ℕ
mixed old keep flip = bit_xor (bit_and old keep) flip

-- bytes from .. end - 1 mixed with a strip, again and again; all others kept
pub record Filled (from end : ℕ) (keep flip old new : List ℕ) : Type 0 where
  pub length : length new ≡ length old
  pub inside : (i : ℕ) → from ≤ i → i < end
      → get_or new i 0 ≡ mixed (get_or old i 0) (get_or keep ((i - from) % 16) 0) (get_or flip ((i - from) % 16) 0)
  pub outside : (i : ℕ) → (i < from) ⊎ (end ≤ i) → get_or new i 0 ≡ get_or old i 0

-- bytes from .. end - 1 put from a strip, again and again; all others kept
pub record Laid (from end : ℕ) (flip old new : List ℕ) : Type 0 where
  pub length : length new ≡ length old
  pub inside : (i : ℕ) → from ≤ i → i < end → get_or new i 0 ≡ get_or flip ((i - from) % 16) 0
  pub outside : (i : ℕ) → (i < from) ⊎ (end ≤ i) → get_or new i 0 ≡ get_or old i 0

-- a strip's sixteen bytes that end at byte `end`, where it is put again and again from byte `from` on
pub record Closing (from end : ℕ) (flip last : List ℕ) : Type 0 where
  pub bytes : (k : ℕ) → k < 16 → get_or last k 0 ≡ get_or flip ((end - 16 - from + k) % 16) 0

-- ## What a pen mixes

-- what (old & keep) ^ flip makes of bit i
abbrev pub mixed_bit : ℕ → ℕ → ℕ → Bool → Bool
mixed_bit keep flip i d = differs (d && bit keep i) (bit flip i)

-- what the pen makes of an old bit over bit i of a word, where the pattern is 1 (on) or 0
abbrev pub pen_bit : Pen → Bool → ℕ → Bool → Bool
pen_bit pen true i d = new_bit pen.op (bit pen.mask i) (bit pen.fore i) d
pen_bit pen false i d = cond pen.transparent d (new_bit pen.op (bit pen.mask i) (bit pen.back i) d)

-- over one half of a word, where the source is a colour, the pen makes of an old bit what the mix does
pub record MixOf (pen : Pen) (colour half : ℕ) (mix : Mix) : Type 0 where
  pub bits : (j : ℕ) → j < 8 → (d : Bool)
      → mixed_bit mix.keep mix.flip j d
      ≡ new_bit pen.op (bit pen.mask (8 * half + j)) (bit colour (8 * half + j)) d

-- over a word
pub record ColourInk (pen : Pen) (colour : ℕ) (ink : Ink) : Type 0 where
  pub bits : (i : ℕ) → i < 16 → (d : Bool)
      → mixed_bit ink.keep ink.flip i d ≡ new_bit pen.op (bit pen.mask i) (bit colour i) d

-- .. where the pattern is 1, or 0
pub record InkOf (pen : Pen) (on : Bool) (ink : Ink) : Type 0 where
  pub bits : (i : ℕ) → i < 16 → (d : Bool) → mixed_bit ink.keep ink.flip i d ≡ pen_bit pen on i d

-- ## The table of a pattern's strips: strip t begins at a pixel with pattern index t

-- what strip t keeps and flips, byte k
abbrev pub keep_at : List ℕ → ℕ → ℕ → ℕ
keep_at s t k = get_or s (32 * t + k) 0

abbrev pub flip_at : List ℕ → ℕ → ℕ → ℕ
flip_at s t k = get_or s (32 * t + 16 + k) 0

-- how many pixels a word has
abbrev pub per_at : List ℕ → ℕ
per_at s = get_or s 512 0

-- a table that can be drawn with: word j of a strip is the first word of the strip that begins j words on, and
-- where its last byte is 1, no old bit is kept
pub record Table (s : List ℕ) : Type 0 where
  pub length : length s ≡ 514
  pub per : per_at s ≤ 16
  pub even : per_at s % 2 ≡ 0
  pub keeps : (t k : ℕ) → t < 16 → k < 16 → keep_at s t k ≡ keep_at s ((t + k / 2 * per_at s) % 16) (k % 2)
  pub flips : (t k : ℕ) → t < 16 → k < 16 → flip_at s t k ≡ flip_at s ((t + k / 2 * per_at s) % 16) (k % 2)
  pub bare : get_or s 513 0 ≡ 1 → (t k : ℕ) → t < 16 → k < 16 → keep_at s t k ≡ 0

-- the column of a strip to which bit j of its byte k belongs
abbrev pub column_of : ℕ → ℕ → ℕ → ℕ
column_of bits k j = (8 * bit_xor k 1 + 7 - j) / bits

-- the table of a pen and a pattern
pub record Woven (pen : Pen) (pattern bits : ℕ) (s : List ℕ) : Type 0 where
  pub length : length s ≡ 514
  pub per : per_at s * bits ≡ 16
  pub mixes : (t k j : ℕ) → t < 16 → k < 16 → j < 8 → (d : Bool)
      → mixed_bit (keep_at s t k) (flip_at s t k) j d
      ≡ pen_bit pen (bit pattern (15 - (t + column_of bits k j) % 16)) (8 * (k % 2) + j) d
  pub bare : get_or s 513 0 ≡ 1 → (t k : ℕ) → t < 16 → k < 16 → keep_at s t k ≡ 0

-- ## How the table is woven

-- a word four times
abbrev pub Fourfold : ℕ → ℕ → Type 0
Fourfold w r = (i : ℕ) → i < 64 → bit r i ≡ bit w (i % 16)

-- each bit is y's where m's is 1, else x's
abbrev pub Muxed : ℕ → ℕ → ℕ → ℕ → Type 0
Muxed m x y r = (i : ℕ) → bit r i ≡ bit (cond (bit m i) y x) i

-- four words under a pattern over their bits: one word's bits under its 1s, another's under its 0s
abbrev pub Under : ℕ → ℕ → ℕ → ℕ → Type 0
Under over fore back r = (i : ℕ) → i < 64 → bit r i ≡ bit (cond (bit over i) fore back) (i % 16)

-- the n low bytes of x put at a byte, the lowest first; all others kept
pub record Put (n at x : ℕ) (old new : List ℕ) : Type 0 where
  pub length : length new ≡ length old
  pub inside : (k : ℕ) → k < n → get_or new (at + k) 0 ≡ x / 2 ^ (8 * k) % 2 ^ 8
  pub outside : (i : ℕ) → (i < at) ⊎ (at + n ≤ i) → get_or new i 0 ≡ get_or old i 0

-- byte k of strip t: the bits of one word under the pattern's 1s, those of another under its 0s
unfoldable pub woven_byte : ℕ → ℕ → ℕ → ℕ → ℕ → ℕ → ℕ
woven_byte pattern bits t fore back k =
    num 8 (λ j. bit (cond (bit pattern (15 - (t + column_of bits k j) % 16)) fore back) (8 * (k % 2) + j))

-- strip t of two inks
pub record StripOf (fore back : Ink) (pattern bits t : ℕ) (s : List ℕ) : Type 0 where
  pub keeps : (k : ℕ) → k < 16 → keep_at s t k ≡ woven_byte pattern bits t fore.keep back.keep k
  pub flips : (k : ℕ) → k < 16 → flip_at s t k ≡ woven_byte pattern bits t fore.flip back.flip k

-- strip t put in its place; all else kept
pub record Wove (fore back : Ink) (pattern bits t : ℕ) (old new : List ℕ) : Type 0 where
  pub length : length new ≡ length old
  pub strip : StripOf fore back pattern bits t new
  pub outside : (i : ℕ) → (i < 32 * t) ⊎ (32 * t + 32 ≤ i) → get_or new i 0 ≡ get_or old i 0

-- ## Rows

-- n pixels from (x,y) on lie in the surface, and the surface in the buffer
pub record InRow (s : Surface) (buffer : List ℕ) (x y n : ℕ) : Type 0 where
  pub fits : Fits s buffer
  pub small : s.left + s.width ≤ 65536
  pub columns : x + n ≤ s.width
  pub row : y < s.height

-- ## A pattern's 16 bits: index k has bit 15 - k mod 16

-- rotated left by s
abbrev pub RotatedLeft : ℕ → ℕ → ℕ → Type 0
RotatedLeft pattern s r = (k : ℕ) → bit r (15 - k % 16) ≡ bit pattern (15 - (k + s) % 16)

-- a word's bits from the other end
abbrev pub Reversed : ℕ → ℕ → Type 0
Reversed x r = (j : ℕ) → j < 16 → bit r j ≡ bit x (15 - j)

-- eight bits of a pattern over the pixels of 8 × bits bits, words low byte first
abbrev pub Spread : ℕ → ℕ → ℕ → Type 0
Spread bits x r = (r < 2 ^ (8 * bits)) × ((i : ℕ) → i < 8 * bits → bit r i ≡ bit x (7 - across 0 i / bits))

-- a pattern over the pixels of a strip, again and again: its first eight bytes
pub record FirstOver (pattern bits over : ℕ) : Type 0 where
  pub first : (i : ℕ) → i < 64 → bit over i ≡ bit pattern (15 - across 0 i / bits % 16)

-- .. its last eight bytes
pub record LastOver (pattern bits over : ℕ) : Type 0 where
  pub last : (i : ℕ) → i < 64 → bit over i ≡ bit pattern (15 - across 0 (64 + i) / bits % 16)
