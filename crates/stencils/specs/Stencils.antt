-- Cells drawn through a stencil: four words mixed under a cover, and what that makes of a row.
use Rattle.std.specs.Prelude.{◌≡◌, ◌⊎◌, Bool, true, false, cond, List, ℕ, ◌+◌, ◌-◌, ◌*◌, ◌/◌, ◌%◌, ◌≤◌, ◌<◌, length}
use Rattle.model.specs.Words.{bit, bit_at}
use Rattle.model.specs.Bitmaps.{Depth}
use Rattle.strips.specs.Stretches.{across}
use Rattle.strips.specs.Strips.{mixed_bit, Fourfold}
use Rattle.strips.specs.Strokes.{pattern_on}
use Rattle.strips.specs.declared.inks.Ink.{Ink}
use Rattle.stencils.specs.declared.Stencil.{Stencil}
use Rattle.stencils.specs.declared.fours.WideInk.{WideInk}

-- the cover is 1 at four words' bits from the left, lo to hi - 1
pub record FourCovers (lo hi cover : ℕ) : Type 0 where
  pub on : (i : ℕ) → i < 64 → lo ≤ across 0 i → across 0 i < hi → bit cover i ≡ true
  pub off : (i : ℕ) → i < 64 → (across 0 i < lo) ⊎ (hi ≤ across 0 i) → bit cover i ≡ false

-- the four words at byte `at` mixed where the cover is 1; all other bits kept
pub record FourMixed (at : ℕ) (ink : WideInk) (cover : ℕ) (old new : List ℕ) : Type 0 where
  pub on : (i : ℕ) → i < 64 → bit cover i ≡ true
      → bit_at new (8 * at + i) ≡ mixed_bit ink.keep ink.flip i (bit_at old (8 * at + i))
  pub off : (i : ℕ) → i < 64 → bit cover i ≡ false → bit_at new (8 * at + i) ≡ bit_at old (8 * at + i)
  pub outside : (m : ℕ) → (m < 8 * at) ⊎ (8 * at + 64 ≤ m) → bit_at new m ≡ bit_at old m
  pub length : length new ≡ length old

-- a word's ink for four words
pub record WideOf (ink : Ink) (r : WideInk) : Type 0 where
  pub keep : Fourfold ink.keep r.keep
  pub flip : Fourfold ink.flip r.flip

-- one ink under the 1s of the cells, another under their 0s
pub record Chosen (fore back : WideInk) (over : ℕ) (r : WideInk) : Type 0 where
  pub keep : (i : ℕ) → bit r.keep i ≡ bit (cond (bit over i) fore.keep back.keep) i
  pub flip : (i : ℕ) → bit r.flip i ≡ bit (cond (bit over i) fore.flip back.flip) i

-- what two inks make of bit i of a word, where the cell is 1 (on) or 0
abbrev pub inked_bit : WideInk → WideInk → Bool → ℕ → Bool → Bool
inked_bit fore back on i v = mixed_bit (cond on fore.keep back.keep) (cond on fore.flip back.flip) i v

-- what a stencil makes of bit m of the row that begins at byte o
unfoldable pub stencilled : Stencil → ℕ → ℕ → ℕ → Bool → Bool
stencilled s cells o m v =
    inked_bit s.fore s.back (pattern_on cells (s.turn + (across o m - 16 * s.word) / s.bits))
    ((m - 8 * o) % 16) v

-- an ink that is the same for each of four words
pub record Repeated (ink : WideInk) : Type 0 where
  pub keep : (i : ℕ) → i < 64 → bit ink.keep i ≡ bit ink.keep (i % 16)
  pub flip : (i : ℕ) → i < 64 → bit ink.flip i ≡ bit ink.flip (i % 16)

-- a stencil that can be drawn through: its covers are those of its bits, in at most twelve words
pub record Usable (s : Stencil) : Type 0 where
  pub depth : Depth s.bits
  pub turn : s.turn < 16
  pub lead : s.lead < 16
  pub some : s.lead < s.end
  pub end : s.end ≤ 192
  pub fore : Repeated s.fore
  pub back : Repeated s.back
  pub first : FourCovers s.lead s.end s.first
  pub second : FourCovers 0 (s.end - 64) s.second
  pub third : FourCovers 0 (s.end - 128) s.third

-- the row that begins at byte `row` has whole groups of four words for all bits of the stencil
abbrev pub RoomFor : Stencil → ℕ → ℕ → Type 0
RoomFor s row n = row + 2 * s.word + 8 * ((s.end + 63) / 64) ≤ n

-- the stencil of bits lo .. hi - 1 of a row, the pattern's index being `turn` at the first pixel of the first word
pub record StencilOf (fore back : Ink) (bits turn lo hi : ℕ) (s : Stencil) : Type 0 where
  pub usable : Usable s
  pub depth : s.bits ≡ bits
  pub index : s.turn ≡ turn
  pub word : s.word ≡ lo / 16
  pub from : 16 * s.word + s.lead ≡ lo
  pub to : 16 * s.word + s.end ≡ hi
  pub ones : WideOf fore s.fore
  pub zeros : WideOf back s.back
