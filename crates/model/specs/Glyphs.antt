-- Characters (01, CHAR): descriptors, cells, the string as dots.
use Rattle.std.specs.Prelude.{ℕ, ◌+◌, ◌-◌, ◌*◌, ◌/◌, ◌%◌, Bool, cond, ◌||◌, List, [], ◌∷◌, eqb, ℤ, pos, neg_ℤ, ◌+ℤ◌, get_or}
use Rattle.model.specs.Ranges.{listed, joined}
use Rattle.model.specs.Words.{bit, word_at}
use Rattle.model.specs.Coordinates.{Place, Point, coord, offset, place, moved}
use Rattle.model.specs.Pixels.{Pen, pen_source}
use Rattle.model.specs.Dots.{Dot, dot, Drawing, drawing, prepended}
pub use Rattle.model.specs.declared.Text.{Text}
pub use Rattle.model.specs.declared.Font.{Font}
use Rattle.model.specs.declared.Font.TheVariants as font

-- the font's base; none counts as 0 (28 comes first)
abbrev pub base_of : Font → ℕ
base_of font.Absent = 0
base_of (font.Word a) = a
base_of (font.Byte a) = a

-- the offset word of code c: "in byte mode (0B hex) code c names the word at base + 2c"
abbrev pub offset_word : ℕ → ℕ → ℕ
offset_word base c = base + 2 * c

-- the selector of character k of a string: "in word mode (0A hex) a selector v"; in byte mode the word of its
-- code
unfoldable pub selector : Font → List ℕ → ℕ → ℕ → ℕ
selector font.Absent store string k = 0
selector (font.Word base) store string k = word_at store (string + 2 * k)
selector (font.Byte base) store string k = word_at store (offset_word base (get_or store (string + k) 0))

-- "a selector v names the descriptor at base + 2v"
unfoldable pub descriptor : Font → List ℕ → ℕ → ℕ → ℕ
descriptor f store string k = base_of f + 2 * selector f store string k

-- a descriptor's first word: "T in bit 15, S in bit 14, height − 1 in bits 11 to 8, width − 1 in bits 3 to 0,
-- the rest ignored"
abbrev pub trap_of : ℕ → Bool
trap_of w = bit w 15

abbrev pub still_of : ℕ → Bool
still_of w = bit w 14

abbrev pub height_of : ℕ → ℕ
height_of w = w / 256 % 16 + 1

abbrev pub width_of : ℕ → ℕ
width_of w = w % 16 + 1

-- "One word a row follows. Bit width−1 is leftmost": the bit of cell (i,j)
unfoldable pub cell_bit : List ℕ → ℕ → ℕ → ℕ → ℕ → Bool
cell_bit store a width i j = bit (word_at store (a + 2 + 2 * j)) (width - 1 - i)

-- "Cell (i column, j row) falls at rotation 0, 90, 180, 270 on (x+i,y+j), (x+j,y−i), (x−i,y−j), (x−j,y+i)"
unfoldable pub rotated : ℕ → Place → ℕ → ℕ → Place
rotated rotation p i j =
    cond (eqb rotation 0) (offset p (pos i) (pos j))
    (cond (eqb rotation 1) (offset p (pos j) (neg_ℤ (pos i)))
    (cond (eqb rotation 2) (offset p (neg_ℤ (pos i)) (neg_ℤ (pos j)))
    (offset p (neg_ℤ (pos j)) (pos i))))

-- "Bits act as pattern bits do": the dots of a character
unfoldable pub glyph_dots : Pen → Bool → ℕ → List ℕ → ℕ → Place → List Dot
glyph_dots pen transparent rotation store a p =
    joined 0 (height_of (word_at store a))
    (λ j. listed 0 (width_of (word_at store a))
    (λ i. dot (rotated rotation p i j)
    (pen_source pen transparent (cell_bit store a (width_of (word_at store a)) i j))))

-- "by spacing plus the width, or the height where path and rotation differ by 90 or 270"
unfoldable pub advance : Text → ℕ → ℤ
advance t w = coord t.spacing +ℤ pos (cond (eqb ((t.path + t.rotation) % 2) 1) (height_of w) (width_of w))

-- "along the path (0 +x, 90 −y, 180 −x, 270 +y)"
unfoldable pub on_path : ℕ → Point → ℤ → Point
on_path path p d =
    cond (eqb path 0) (moved p d (pos 0))
    (cond (eqb path 1) (moved p (pos 0) (neg_ℤ d))
    (cond (eqb path 2) (moved p (neg_ℤ d) (pos 0))
    (moved p (pos 0) d)))

-- "Unless S, the position moves": the position after a character
unfoldable pub passed : Text → ℕ → Point → Point
passed t w p = cond (still_of w) p (on_path t.path p (advance t w))

-- "T sets the trap flag"
abbrev pub trapping : Bool → Drawing → Drawing
trapping t d = record { dots = d.dots; position = d.position; trap = t || d.trap }

-- the characters whose descriptors are at these addresses, one after the other
unfoldable pub string : Pen → Bool → Text → List ℕ → Point → List ℕ → Drawing
string pen transparent t store p [] = drawing [] p
string pen transparent t store p (a ∷ as') =
    trapping (trap_of (word_at store a))
    (prepended (glyph_dots pen transparent t.rotation store a (place p))
    (string pen transparent t store (passed t (word_at store a) p) as'))
