-- Pictures of copies (01, "Pixels"): BIT_BLT over itself in each direction, BIT_BLT_M between the pane and the store.
-- The expected values were worked out by a small program that was written from the sentences of the paper and from 003, and not from these
-- definitions; the smaller pictures were followed by hand too.
use mathlib.Core.Path.{◌≡◌, refl}
use mathlib.Core.List.{List, [], ◌∷◌}
use lib.IntN.{pos}
use Rattle.model.proofs.Computing.{machine}
use Rattle.model.proofs.Listings.{minus, the_pane, halt, def_bitmap, def_clip_rect, def_colors, def_logical_op, transparent, def_space, abs_mov, bit_blt, bit_blt_m}
use Rattle.model.proofs.Scripts.{piece}
use Rattle.model.proofs.Pictures.{Picture, screen, pane_row, drawn, storing, painted, blank, ended, outcomes, expectations}

abbrev table : List Picture
table =
    -- BIT_BLT over itself, right and down
    drawn (screen 8 3 4) (pane_row 0 0 8 3 40)
    (def_bitmap the_pane 7 2 4 ∷ abs_mov 1 1 ∷ bit_blt 0 0 5 1 ∷ halt ∷ [])
    (0x1234_5678 ∷
    0x9ABC_DEF0 ∷
    0x2468_ACE1 ∷ [])
    (ended 3 12 28 (pos 6) (pos 1) 0 0)
    (0x1234_5678 ∷
    0x9123_4560 ∷
    0x29AB_CDE1 ∷ [])
    -- BIT_BLT over itself, left and up
    ∷ drawn (screen 8 3 4) (pane_row 0 0 8 3 40)
    (def_bitmap the_pane 7 2 4 ∷ abs_mov 0 0 ∷ bit_blt 1 1 5 1 ∷ halt ∷ [])
    (0x1234_5678 ∷
    0x9ABC_DEF0 ∷
    0x2468_ACE1 ∷ [])
    (ended 3 12 28 (pos 5) (pos 0) 0 0)
    (0xABCD_EF78 ∷
    0x468A_CEF0 ∷
    0x2468_ACE1 ∷ [])
    -- BIT_BLT over itself, left and down, partly outside the pane
    ∷ drawn (screen 8 3 4) (pane_row 0 0 8 3 40)
    (def_bitmap the_pane 7 2 4 ∷ abs_mov (minus 1) 1 ∷ bit_blt 1 0 6 2 ∷ halt ∷ [])
    (0x1234_5678 ∷
    0x9ABC_DEF0 ∷
    0x2468_ACE1 ∷ [])
    (ended 3 12 28 (pos 5) (pos 1) 0 0)
    (0x1234_5678 ∷
    0x3456_78F0 ∷
    0xBCDE_F0E1 ∷ [])
    -- BIT_BLT over itself, right and up; the position moves by dx and the spacing, −3
    ∷ drawn (screen 8 3 4) (pane_row 0 0 8 3 40)
    (def_bitmap the_pane 7 2 4 ∷ def_space (minus 3) ∷ abs_mov 2 0 ∷ bit_blt 0 1 4 1 ∷ halt ∷ [])
    (0x1234_5678 ∷
    0x9ABC_DEF0 ∷
    0x2468_ACE1 ∷ [])
    (ended 4 10 32 (pos 3) (pos 0) 0 0)
    (0x129A_BCD8 ∷
    0x9A24_68A0 ∷
    0x2468_ACE1 ∷ [])
    -- BIT_BLT at 32767, nothing of it in the pane, by dx 3 and spacing 32767: the position wraps to 1
    ∷ drawn (screen 8 1 4) (pane_row 0 0 8 1 40)
    (def_bitmap the_pane 7 0 4 ∷ def_space 32767 ∷ abs_mov 32767 0 ∷ bit_blt 0 0 3 0 ∷ halt ∷ [])
    (0x1234_5678 ∷ [])
    (ended 4 0 32 (pos 1) (pos 0) 0 0)
    (0x1234_5678 ∷ [])
    -- BIT_BLT of one row right by one, every source read first; then left by one
    ∷ drawn (screen 8 2 4) (pane_row 0 0 8 2 60)
    (def_bitmap the_pane 7 1 4 ∷ abs_mov 1 0 ∷ bit_blt 0 0 6 0 ∷ abs_mov 0 1 ∷ bit_blt 1 1 6 0 ∷ halt ∷ [])
    (0x1234_5678 ∷
    0x1234_5678 ∷ [])
    (ended 5 14 44 (pos 6) (pos 1) 0 0)
    (0x1123_4567 ∷
    0x2345_6788 ∷ [])
    -- A copied 0 is drawn, and texture and colours do not matter; the clip cuts the copy, not its source; XOR under a mask
    ∷ drawn (screen 10 3 4) (pane_row 1 0 8 3 96)
    (def_bitmap the_pane 7 2 4 ∷ def_colors 0xFFFF 0xFFFF ∷ transparent 0x0000 ∷ def_clip_rect 3 1 6 2 ∷ abs_mov 2 1 ∷ bit_blt 0 0 5 0
    ∷ def_logical_op 0xF0FF 6 ∷ abs_mov 2 2 ∷ bit_blt 0 0 5 0 ∷ halt ∷ [])
    (0x0102_0304_0500 ∷
    0x1111_1111_1111 ∷
    0x1111_1111_1111 ∷ [])
    (ended 9 8 70 (pos 7) (pos 2) 0 0)
    (0x0102_0304_0500 ∷
    0x1111_0203_1111 ∷
    0x1111_1112_1111 ∷ [])
    -- BIT_BLT_M from the pane into a store bitmap of its depth, then from there back into the pane. The bitmap's rows end in the middle of a word
    ∷ storing (piece 0x60 (painted 2 (0b01_01_01_01_01_01_01_01_01_01_01_01_01_01_01_01 ∷ 0b01_01_01_01_01_01_01_01_01_01_01_01_01_01_01_01 ∷
    0b01_01_01_01_01_01_01_01_01_01_01_01_01_01_01_01 ∷ [])) ∷ [])
    (piece 0x60 (painted 2 (0b01_01_01_01_01_01_01_01_01_01_01_01_01_01_01_01 ∷ 0b01_00_01_10_11_00_01_01_01_01_01_01_01_01_01_01 ∷
    0b01_11_10_01_00_11_10_01_01_01_01_01_01_01_01_01 ∷ [])) ∷ [])
    (drawn (screen 12 3 2) (pane_row 2 0 9 3 120)
    (def_bitmap 0x60 8 2 2 ∷ abs_mov 1 1 ∷ bit_blt_m the_pane 8 2 2 0 5 1 ∷ def_bitmap the_pane 8 2 2 ∷ abs_mov 3 0 ∷ bit_blt_m 0x60 8 2 0 0 4 2
    ∷ halt ∷ [])
    (0b00_01_10_11_00_01_10_11_00_01_10_11_00_00_00_00 ∷
    0b11_10_01_00_11_10_01_00_11_10_01_00_00_00_00_00 ∷
    0b00_00_00_00_00_00_00_00_00_00_00_00_00_00_00_00 ∷ [])
    (ended 6 27 72 (pos 7) (pos 0) 0 0)
    (0b00_01_10_11_00_01_01_01_01_01_10_11_00_00_00_00 ∷
    0b11_10_01_00_11_01_00_01_10_11_01_00_00_00_00_00 ∷
    0b00_00_00_00_00_01_11_10_01_00_00_00_00_00_00_00 ∷ []))
    -- BIT_BLT in a store bitmap of depth 8, over itself; the screen has another depth
    ∷ storing (piece 0x30 (painted 2 (0x01_02_03_EE ∷ 0x04_05_06_EE ∷ 0x07_08_09_EE ∷ [])) ∷ [])
    (piece 0x30 (painted 2 (0x01_01_02_EE ∷ 0x04_04_05_EE ∷ 0x07_07_08_EE ∷ [])) ∷ [])
    (drawn (screen 16 1 1) (pane_row 0 0 16 1 60)
    (def_bitmap 0x30 2 2 8 ∷ abs_mov 1 0 ∷ bit_blt 0 0 1 2 ∷ halt ∷ [])
    (blank 1)
    (ended 3 6 28 (pos 2) (pos 0) 0 0)
    (blank 1))
    -- BIT_BLT_M between two bitmaps of the store: the source's bitmap overlaps the active one, its rectangle does not
    ∷ storing (piece 0x40 (painted 2 (0x1234_5678 ∷ 0x9ABC_DEF0 ∷ 0x2468_ACE1 ∷ [])) ∷ [])
    (piece 0x40 (painted 2 (0x1234_5678 ∷ 0x9ABC_DEF0 ∷ 0x2345_ABCD ∷ [])) ∷ [])
    (drawn (screen 16 1 1) (pane_row 0 0 16 1 100)
    (def_bitmap 0x48 3 1 4 ∷ abs_mov 0 0 ∷ bit_blt_m 0x40 7 2 1 0 3 1 ∷ halt ∷ [])
    (blank 1)
    (ended 3 8 36 (pos 3) (pos 0) 0 0)
    (blank 1))
    -- BIT_BLT_M where the active bitmap lies between rows of the source's bitmap: only the words of the rows copied count
    ∷ storing (piece 0x40 (painted 1 (0x1111 ∷ 0x2222 ∷ 0x3333 ∷ 0x4444 ∷ 0x0000 ∷ 0x5678 ∷ 0x9ABC ∷ [])) ∷ [])
    (piece 0x40 (painted 1 (0x1111 ∷ 0x2222 ∷ 0x3333 ∷ 0x4444 ∷ 0x0007 ∷ 0x5678 ∷ 0x9ABC ∷ [])) ∷ [])
    (drawn (screen 16 1 1) (pane_row 0 0 16 1 100)
    (def_bitmap 0x48 3 0 4 ∷ abs_mov 3 0 ∷ bit_blt_m 0x40 3 6 2 5 1 1 ∷ halt ∷ [])
    (blank 1)
    (ended 3 1 36 (pos 4) (pos 0) 0 0)
    (blank 1))
    ∷ []

pub copy_pictures : outcomes table ≡ expectations table
unfolding machine outcomes
copy_pictures = refl
