-- The bench figures P1 to P12 (01, "Bench figures") as one table. That all of it holds is a theorem
-- (proofs/Figures.antt), and the contract of `figures_hold`.
use Rattle.std.specs.Prelude.{◌≡◌, false, List, [], ◌∷◌, ◌++◌, ℕ, suc, ◌+◌, ◌-◌, ◌*◌, ℤ, pos, neg_ℤ, length, replicate, get_or}
use Rattle.model.specs.Ranges.{listed}
use Rattle.model.specs.Coordinates.{Place, at, point, moved, coord}
use Rattle.model.specs.Bitmaps.{row_words, store_surface, place_bit, pixels}
use Rattle.model.specs.Pixels.{Pen, blend, changes}
use Rattle.model.specs.declared.Source.TheVariants.{Copied}
use Rattle.model.specs.Dots.{changes_of}
use Rattle.model.specs.Lines.{major, offset_y, line_dots}
use Rattle.model.specs.Copies.{copy_dots}
use Rattle.model.specs.Glyphs.{rotated, descriptor}
use Rattle.model.specs.declared.Font.TheVariants as font

-- −k
abbrev pub neg : ℕ → ℤ
neg k = neg_ℤ (pos k)

-- replace under a mask
abbrev pub masked : ℕ → Pen
masked m = record { fore = 0; back = 0; op = 5; mask = m; pattern = 0xFFFF; transparent = false }

-- a row of the table
pub data Figure : Type 0 where
  -- LINE (dx,dy), with x the major axis, has these minor offsets, one for each pixel
  minors : ℤ → ℤ → List ℤ → Figure
  -- LINE (dx,dy) has so many pixels
  count : ℤ → ℤ → ℕ → Figure
  -- the coordinate x moved by dx is this one
  move : ℤ → ℤ → ℤ → Figure
  -- at a depth, a column begins at this bit of this byte
  lies : ℕ → ℕ → ℕ → ℕ → Figure
  -- a row of so many pixels at a depth takes so many words
  words : ℕ → ℕ → ℕ → Figure
  -- by replace: old, source, mask, new, of four bits
  replaced : ℕ → ℕ → ℕ → ℕ → Figure
  -- cell (i,j) at a place falls on these at the four rotations
  cell : ℕ → ℕ → Place → List Place → Figure
  -- a row of values, copied from the first column to a last one to another column, becomes this row
  copying : ℕ → ℕ → List ℕ → List ℕ → Figure
  -- byte mode: base, code, the word at base + 2 × code, the descriptor
  names : ℕ → ℕ → ℕ → ℕ → Figure

-- a row of four pixels of depth 4 in a store, and its values
abbrev pub four : List ℕ → List ℕ
four store = listed 0 4 (λ x. pixels (store_surface 0 3 0 4) store x 0)

-- a row of four values as a word
abbrev pub packed : List ℕ → List ℕ
packed l = (16 * get_or l 2 0 + get_or l 3 0) ∷ (16 * get_or l 0 0 + get_or l 1 0) ∷ []

abbrev pub copied_row : ℕ → ℕ → List ℕ → List ℕ
copied_row last x store =
    changes (store_surface 0 3 0 4)
    (changes_of (store_surface 0 3 0 4) (record { xmin = 0; ymin = 0; xmax = 3; ymax = 0 }) (masked 0xFFFF)
    (copy_dots (pixels (store_surface 0 3 0 4) store) (at (pos x) (pos 0))
    (record { sx = pos 0; sy = pos 0; dx = pos last; dy = pos 0 })))
    store

abbrev pub Holds : Figure → Type 0
Holds (minors dx dy zs) = listed 0 (suc (major dx dy)) (offset_y dx dy) ≡ zs
Holds (count dx dy n) = length (line_dots (masked 0xFFFF) (at (pos 0) (pos 0)) dx dy) ≡ n
Holds (move x dx z) = coord (moved (point (at x (pos 0))) dx (pos 0)).x ≡ z
Holds (lies b c byte bit) = place_bit (store_surface 0 63 0 b) c 0 ≡ 8 * byte + bit
Holds (words w b n) = row_words w b ≡ n
Holds (replaced old source mask new) = blend 4 0 (masked mask) (Copied source) old ≡ new
Holds (cell i j p ps) = listed 0 4 (λ r. rotated r p i j) ≡ ps
Holds (copying last x from to) = four (copied_row last x (packed from)) ≡ to
Holds (names base code word a) =
    descriptor (font.Byte base) (code ∷ replicate (base + 2 * code - 1) 0 ++ (word ∷ 0 ∷ [])) 0 0 ≡ a

abbrev pub All : List Figure → Type 0
All [] = Unit {0}
All (f ∷ fs) = Holds f × All fs

abbrev pub table : List Figure
table =
    -- P1
    minors (pos 5) (pos 2) (pos 0 ∷ pos 0 ∷ pos 1 ∷ pos 1 ∷ pos 2 ∷ pos 2 ∷ [])
    -- P2
    ∷ minors (pos 2) (pos 1) (pos 0 ∷ pos 1 ∷ pos 1 ∷ [])
    ∷ minors (neg 2) (neg 1) (pos 0 ∷ neg 1 ∷ neg 1 ∷ [])
    -- P3
    ∷ count (pos 0) (pos 0) 1
    -- P4
    ∷ count (neg 32768) (pos 0) 32769
    -- P5
    ∷ move (pos 32767) (pos 1) (neg 32768)
    -- P6
    ∷ lies 1 0 1 7
    ∷ lies 1 8 0 7
    -- P7
    ∷ lies 4 3 0 0
    -- P8
    ∷ words 17 1 2
    -- P9
    ∷ replaced 0b1001 0b0110 0b0011 0b1010
    -- P10
    ∷ cell 2 1 (at (pos 10) (pos 10))
    (at (pos 12) (pos 11) ∷ at (pos 11) (pos 8) ∷ at (pos 8) (pos 9) ∷ at (pos 9) (pos 12) ∷ [])
    -- P11
    ∷ copying 2 1 (1 ∷ 2 ∷ 3 ∷ 4 ∷ []) (1 ∷ 1 ∷ 2 ∷ 3 ∷ [])
    -- P12
    ∷ names 0x100 5 0x30 0x160
    ∷ []
