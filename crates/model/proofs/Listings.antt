-- Commands as lists of words, written from 003, 2.10.1 to 2.10.33, and not from the decoder, for the tests to run.
use mathlib.Core.List.{List, [], ◌∷◌, ◌++◌}
use Prim.Native.Nat.{ℕ, ◌+◌, ◌-◌, ◌*◌, ◌/◌, ◌%◌}

-- −n as a 16-bit word
abbrev pub minus : ℕ → ℕ
minus n = 0x10000 - n

-- the address that means the pane
abbrev pub the_pane : ℕ
the_pane = 0x200000

-- the low and the high word of an address
abbrev low : ℕ → ℕ
low a = a % 0x10000

abbrev high : ℕ → ℕ
high a = a / 0x10000

-- ## Control

abbrev pub nop : List ℕ
nop = 0x0300 ∷ []

-- NOP with GECL set
abbrev pub halt : List ℕ
halt = 0x0301 ∷ []

abbrev pub link : ℕ → List ℕ
link a = 0x0200 ∷ low a ∷ high a ∷ []

abbrev pub call : ℕ → List ℕ
call a = 0x0F00 ∷ low a ∷ high a ∷ []

abbrev pub return : List ℕ
return = 0x1700 ∷ []

-- ## What is drawn on, with and where

-- address, xmax, ymax, bits per pixel
abbrev pub def_bitmap : ℕ → ℕ → ℕ → ℕ → List ℕ
def_bitmap a xmax ymax bits = 0x1A00 ∷ low a ∷ high a ∷ xmax ∷ ymax ∷ bits ∷ []

-- xmin, ymin, xmax, ymax
abbrev pub def_clip_rect : ℕ → ℕ → ℕ → ℕ → List ℕ
def_clip_rect xmin ymin xmax ymax = 0x4600 ∷ xmin ∷ ymin ∷ xmax ∷ ymax ∷ []

-- foreground, background
abbrev pub def_colors : ℕ → ℕ → List ℕ
def_colors fore back = 0x3D00 ∷ fore ∷ back ∷ []

-- mask, code
abbrev pub def_logical_op : ℕ → ℕ → List ℕ
def_logical_op mask code = 0x4100 ∷ mask ∷ code ∷ []

abbrev pub opaque : ℕ → List ℕ
opaque pattern = 0x0600 ∷ pattern ∷ []

abbrev pub transparent : ℕ → List ℕ
transparent pattern = 0x0700 ∷ pattern ∷ []

abbrev pub def_space : ℕ → List ℕ
def_space spacing = 0x4D00 ∷ spacing ∷ []

-- path, rotation
abbrev pub def_char_orient : ℕ → ℕ → List ℕ
def_char_orient path rotation = 0x4E00 ∷ (0x100 * path + rotation) ∷ []

abbrev pub word_font : ℕ → List ℕ
word_font base = 0x0A00 ∷ low base ∷ high base ∷ []

abbrev pub byte_font : ℕ → List ℕ
byte_font base = 0x0B00 ∷ low base ∷ high base ∷ []

abbrev pub enter_pick : List ℕ
enter_pick = 0x4400 ∷ []

abbrev pub exit_pick : List ℕ
exit_pick = 0x4500 ∷ []

abbrev pub abs_mov : ℕ → ℕ → List ℕ
abs_mov x y = 0x4F00 ∷ x ∷ y ∷ []

abbrev pub rel_mov : ℕ → ℕ → List ℕ
rel_mov dx dy = 0x5200 ∷ dx ∷ dy ∷ []

-- ## Drawing

abbrev pub point : ℕ → ℕ → List ℕ
point dx dy = 0x5300 ∷ dx ∷ dy ∷ []

abbrev pub line : ℕ → ℕ → List ℕ
line dx dy = 0x5400 ∷ dx ∷ dy ∷ []

abbrev pub rect : ℕ → ℕ → List ℕ
rect dx dy = 0x5800 ∷ dx ∷ dy ∷ []

-- address and number of pairs
abbrev pub polyline : ℕ → ℕ → List ℕ
polyline a n = 0x7400 ∷ low a ∷ high a ∷ n ∷ []

-- radius
abbrev pub circle : ℕ → List ℕ
circle radius = 0x8E00 ∷ radius ∷ []

-- address and number of triples
abbrev pub scan_lines : ℕ → ℕ → List ℕ
scan_lines a n = 0xBA00 ∷ low a ∷ high a ∷ n ∷ []

-- source x, y, dx, dy
abbrev pub bit_blt : ℕ → ℕ → ℕ → ℕ → List ℕ
bit_blt x y dx dy = 0x6400 ∷ x ∷ y ∷ dx ∷ dy ∷ []

-- source bitmap's address, xmax, ymax; source x, y, dx, dy
abbrev pub bit_blt_m : ℕ → ℕ → ℕ → ℕ → ℕ → ℕ → ℕ → List ℕ
bit_blt_m a xmax ymax x y dx dy = 0xAE00 ∷ low a ∷ high a ∷ xmax ∷ ymax ∷ x ∷ y ∷ dx ∷ dy ∷ []

-- address and length of the string
abbrev pub char : ℕ → ℕ → List ℕ
char a n = 0xA600 ∷ low a ∷ high a ∷ n ∷ []

abbrev pub char_transparent : ℕ → ℕ → List ℕ
char_transparent a n = 0xA700 ∷ low a ∷ high a ∷ n ∷ []

-- ## Bytes

-- words as bytes, the low byte first
abbrev pub bytes : List ℕ → List ℕ
bytes [] = []
bytes (w ∷ ws) = w % 0x100 ∷ w / 0x100 ∷ bytes ws

-- commands, one after the other, as bytes
abbrev pub listing : List (List ℕ) → List ℕ
listing [] = []
listing (c ∷ cs) = bytes c ++ listing cs
