-- Pictures of colours, masks and operations at each depth, and of pick mode (01, "Pixels").
-- The expected values were worked out by a small program that was written from the sentences of the paper and from 003, and not from these
-- definitions; the smaller pictures were followed by hand too.
use mathlib.Core.Path.{◌≡◌, refl}
use mathlib.Core.List.{List, [], ◌∷◌}
use lib.IntN.{pos}
use mathlib.Core.Bool.{Bool, true, false}
use Prim.Native.Nat.{ℕ}
use lib.ListN.{replicate}
use Rattle.model.specs.Coordinates.{at}
use Rattle.model.specs.Bitmaps.{Surface, pane_surface, pixels}
use Rattle.model.specs.Pixels.{change}
use Rattle.model.specs.declared.Source.TheVariants.{Copied}
use Rattle.model.specs.Dots.{dot, visible}
use Rattle.model.proofs.Computing.{machine}
use Rattle.model.proofs.Listings.{minus, the_pane, halt, def_bitmap, def_clip_rect, def_colors, def_logical_op, opaque, transparent, enter_pick, exit_pick}
use Rattle.model.proofs.Listings.{abs_mov, line}
use Rattle.model.proofs.Pictures.{Picture, screen, pane_row, drawn, blank, ended, outcomes, expectations}

abbrev table : List Picture
table =
    -- Depth 1: colours and mask by the bits of the word where the pixel lies, so by the screen's columns; the pane begins at column 3
    drawn (screen 24 2 1) (pane_row 3 0 19 2 72)
    (def_bitmap the_pane 18 1 1 ∷ def_colors 0x00FF 0xFF00 ∷ line 18 0 ∷ def_logical_op 0x3333 5 ∷ def_colors 0xFFFF 0x0000 ∷ abs_mov 0 1
    ∷ line 18 0 ∷ halt ∷ [])
    (blank 2)
    (ended 7 38 48 (pos 18) (pos 1) 0 0)
    (0b00000000_11111111_00000000_00000000 ∷
    0b00010011_00110011_00110000_00000000 ∷ [])
    -- Depth 2: a colour of eight different pixels; background where the pattern has 0
    ∷ drawn (screen 20 1 2) (pane_row 3 0 15 1 40)
    (def_bitmap the_pane 14 0 2 ∷ def_colors 0x1BE4 0xFF00 ∷ opaque 0xF5F5 ∷ line 14 0 ∷ halt ∷ [])
    (blank 1)
    (ended 4 15 28 (pos 14) (pos 0) 0 0)
    (0b00_00_00_11_11_10_01_00_00_11_10_11_11_10_01_00_00_11_00_00_00_00_00_00 ∷ [])
    -- Depth 4: XOR under a mask of one pixel's bits; the code's low four bits count
    ∷ drawn (screen 10 2 4) (pane_row 1 0 8 2 64)
    (def_bitmap the_pane 7 1 4 ∷ def_colors 0x1234 0x0000 ∷ def_logical_op 0xF0F0 65526 ∷ line 7 0 ∷ def_logical_op 0x137F 10 ∷ abs_mov 0 1
    ∷ line 7 0 ∷ halt ∷ [])
    (0xFFFF_FFFF_FFFF ∷
    0x0123_4567_89AB ∷ [])
    (ended 7 16 48 (pos 7) (pos 1) 0 0)
    (0xFFCF_EFCF_EFFF ∷
    0x014B_454B_89AB ∷ [])
    -- Depth 8: even and odd columns take the high and the low byte of the colour
    ∷ drawn (screen 6 3 8) (pane_row 1 1 4 2 64)
    (def_bitmap the_pane 3 1 8 ∷ def_colors 0x12AB 0x0000 ∷ line 3 0 ∷ def_logical_op 0x0FF0 7 ∷ abs_mov 3 1 ∷ line (minus 3) 0 ∷ halt ∷ [])
    (0x11_11_11_11_11_11 ∷
    0x11_11_11_11_11_11 ∷
    0x11_11_11_11_11_11 ∷ [])
    (ended 6 8 42 (pos 0) (pos 1) 0 0)
    (0x11_11_11_11_11_11 ∷
    0x11_AB_12_AB_12_11 ∷
    0x11_B1_13_B1_13_11 ∷ [])
    -- An operation other than "replace" on pixels of the background and none on those that transparency leaves out
    ∷ drawn (screen 8 2 2) (pane_row 0 0 8 2 64)
    (def_bitmap the_pane 7 1 2 ∷ def_colors 0xAAAA 0x5555 ∷ def_logical_op 0xFFFF 6 ∷ opaque 0xCCCC ∷ line 7 0 ∷ transparent 0xCCCC ∷ abs_mov 0 1
    ∷ line 7 0 ∷ halt ∷ [])
    (0b00_01_10_11_00_01_10_11 ∷
    0b00_01_10_11_00_01_10_11 ∷ [])
    (ended 8 12 50 (pos 7) (pos 1) 0 0)
    (0b10_11_11_10_10_11_11_10 ∷
    0b10_11_10_11_10_11_10_11 ∷ [])
    -- Pick mode: nothing is drawn, everything else happens; a pixel in the clip sets the flag, though mask and operation would keep it
    ∷ drawn (screen 16 2 1) (pane_row 0 0 16 2 80)
    (def_bitmap the_pane 15 1 1 ∷ def_colors 0xFFFF 0x0000 ∷ def_logical_op 0x0000 3 ∷ enter_pick ∷ def_clip_rect 4 0 6 1 ∷ line 4 0 ∷ halt ∷ [])
    (blank 2)
    (ended 6 0 42 (pos 4) (pos 0) 1 0)
    (blank 2)
    -- Pick mode: pixels outside the clip and zeros under transparency do not set the flag
    ∷ drawn (screen 16 2 1) (pane_row 0 0 16 2 80)
    (def_bitmap the_pane 15 1 1 ∷ def_colors 0xFFFF 0x0000 ∷ enter_pick ∷ def_clip_rect 4 0 6 1 ∷ line 3 0 ∷ abs_mov 7 1 ∷ line 5 0
    ∷ transparent 0xF1FF ∷ abs_mov 0 0 ∷ line 7 0 ∷ halt ∷ [])
    (blank 2)
    (ended 10 0 64 (pos 7) (pos 0) 0 0)
    (blank 2)
    -- ENTER_PICK clears the flag, EXIT_PICK keeps it; after it pixels are drawn again, and leave the flag alone
    ∷ drawn (screen 16 2 1) (pane_row 0 0 16 2 80)
    (def_bitmap the_pane 15 1 1 ∷ def_colors 0xFFFF 0x0000 ∷ enter_pick ∷ line 3 0 ∷ enter_pick ∷ exit_pick ∷ line 0 1 ∷ halt ∷ [])
    (blank 2)
    (ended 7 2 36 (pos 3) (pos 1) 0 0)
    (0b00010000_00000000 ∷
    0b00010000_00000000 ∷ [])
    -- The flag stays after EXIT_PICK, and a later drawing in pick mode that meets nothing does not clear it
    ∷ drawn (screen 16 2 1) (pane_row 0 0 16 2 80)
    (def_bitmap the_pane 15 1 1 ∷ def_colors 0xFFFF 0x0000 ∷ enter_pick ∷ line 3 0 ∷ line 0 9 ∷ line 0 3 ∷ exit_pick ∷ abs_mov 2 1 ∷ line 2 0
    ∷ halt ∷ [])
    (blank 2)
    (ended 9 3 52 (pos 4) (pos 1) 1 0)
    (0b00000000_00000000 ∷
    0b00111000_00000000 ∷ [])
    ∷ []

pub pen_pictures : outcomes table ≡ expectations table
unfolding machine outcomes
pen_pictures = refl

-- ## Outside a surface

-- a pane of 6 by 2 pixels at (3,0), all bits of the screen 1
abbrev pane : Surface
pane = pane_surface (record { width = 16; height = 3; depth = 1 }) (record { left = 3; top = 0; width = 6; height = 2; start = 0; len = 0 })

abbrev ones : List ℕ
ones = replicate 6 0xFF

-- "in bitmap and clip": a clip that reaches beyond it makes nothing visible there
abbrev seen : ℕ → ℕ → Bool
seen x y = visible pane (record { xmin = 0; ymin = 0; xmax = 9; ymax = 9 }) (dot (at (pos x) (pos y)) (Copied 0))

pub outside_visible : seen 5 1 ∷ seen 6 1 ∷ seen 5 2 ∷ [] ≡ true ∷ false ∷ false ∷ []
unfolding machine
outside_visible = refl

-- it shows 0 outside, and a change there is none
pub outside_shows :
    pixels pane ones 5 1 ∷ pixels pane ones 6 1 ∷ pixels pane ones 5 2 ∷ []
    ≡ 1 ∷ 0 ∷ 0 ∷ []
unfolding machine
outside_shows = refl

abbrev cleared : ℕ → ℕ → List ℕ
cleared x y = change pane (record { x = x; y = y; new = λ v. 0 }) ones

pub outside_changes :
    cleared 5 1 ∷ cleared 6 1 ∷ cleared 5 2 ∷ []
    ≡ (0xFF ∷ 0xFF ∷ 0b01111111 ∷ 0xFF ∷ 0xFF ∷ 0xFF ∷ []) ∷ ones ∷ ones ∷ []
unfolding machine
outside_changes = refl
