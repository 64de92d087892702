-- Pictures of characters (01, CHAR): rotations, paths, both modes, S and T, clip, pick mode.
-- The expected values were worked out by a small program that was written from the sentences of the paper and from 003, and not from these
-- definitions; the smaller pictures were followed by hand too.
use mathlib.Core.Path.{◌≡◌, refl}
use mathlib.Core.List.{List, [], ◌∷◌}
use lib.IntN.{pos}
use Rattle.model.specs.Figures.{neg}
use Rattle.model.proofs.Computing.{machine}
use Rattle.model.proofs.Listings.{minus, the_pane, halt, def_bitmap, def_clip_rect, def_colors, opaque, transparent, def_space, def_char_orient, word_font}
use Rattle.model.proofs.Listings.{byte_font, enter_pick, exit_pick, abs_mov, polyline, char, char_transparent, bytes}
use Rattle.model.proofs.Scripts.{piece}
use Rattle.model.proofs.Pictures.{Picture, screen, pane_row, drawn, with_pieces, storing, painted, blank, ended, outcomes, expectations}

abbrev table : List Picture
table =
    -- CHAR in word mode: a cell of 3 by 2, rows 110 and 001, at the four rotations; opaque, so its zeros are drawn too
    with_pieces (piece 0x68 (bytes (0x0003 ∷ [])) ∷
    piece 0x70 (bytes (0x0102 ∷ 0x0006 ∷ 0x0001 ∷ [])) ∷ [])
    (drawn (screen 16 8 1) (pane_row 0 0 16 8 118)
    (def_bitmap the_pane 15 7 1 ∷ def_colors 0xFFFF 0x0000 ∷ word_font 0x6A ∷ def_char_orient 0 0 ∷ abs_mov 1 1 ∷ char 0x68 1 ∷ def_char_orient 0 1
    ∷ abs_mov 6 4 ∷ char 0x68 1 ∷ def_char_orient 0 2 ∷ abs_mov 14 3 ∷ char 0x68 1 ∷ def_char_orient 0 3 ∷ abs_mov 11 5 ∷ char 0x68 1 ∷ halt ∷ [])
    (0b11111111_11111111 ∷
    0b11111111_11111111 ∷
    0b11111111_11111111 ∷
    0b11111111_11111111 ∷
    0b11111111_11111111 ∷
    0b11111111_11111111 ∷
    0b11111111_11111111 ∷
    0b11111111_11111111 ∷ [])
    (ended 15 24 96 (pos 13) (pos 5) 0 0)
    (0b11111111_11111111 ∷
    0b11101111_11111111 ∷
    0b10011101_11111001 ∷
    0b11111110_11110111 ∷
    0b11111110_11111111 ∷
    0b11111111_11011111 ∷
    0b11111111_11011111 ∷
    0b11111111_11101111 ∷ []))
    -- A string in word mode: S keeps the position, T sets the trap flag, which stays, and the string goes on; a descriptor's other bits do not count
    ∷ with_pieces (piece 0x38 (bytes (0x0008 ∷ 0x0000 ∷ 0x0010 ∷ 0x0008 ∷ [])) ∷
    piece 0x40 (bytes (0x4002 ∷ 0x0005 ∷ [])) ∷
    piece 0x50 (bytes (0x0102 ∷ 0x0003 ∷ 0x0004 ∷ [])) ∷
    piece 0x60 (bytes (0xB0F1 ∷ 0xFFFE ∷ [])) ∷ [])
    (drawn (screen 16 4 1) (pane_row 1 0 15 4 112)
    (def_bitmap the_pane 14 3 1 ∷ def_colors 0xFFFF 0x0000 ∷ word_font 0x40 ∷ def_space 1 ∷ abs_mov 0 1 ∷ char_transparent 0x38 4 ∷ polyline 0x38 0
    ∷ enter_pick ∷ exit_pick ∷ halt ∷ [])
    (blank 4)
    (ended 9 9 54 (pos 11) (pos 1) 0 1)
    (0b00000000_00000000 ∷
    0b00110101_01100000 ∷
    0b01000000_10000000 ∷
    0b00000000_00000000 ∷ []))
    -- Byte mode: a string at an odd address, codes 1, 3, 1 through the offset words. Path 180 at rotation 90: the position moves by the height
    ∷ with_pieces (piece 0x3B (1 ∷ 3 ∷ 1 ∷ []) ∷
    piece 0x40 (bytes (0xFFFF ∷ 0x0008 ∷ 0xFFFF ∷ 0x000C ∷ [])) ∷
    piece 0x50 (bytes (0x0203 ∷ 0x000A ∷ 0x0005 ∷ 0x000C ∷ [])) ∷
    piece 0x58 (bytes (0x0101 ∷ 0x0003 ∷ 0x0001 ∷ [])) ∷ [])
    (drawn (screen 16 8 1) (pane_row 0 0 16 8 100)
    (def_bitmap the_pane 15 7 1 ∷ def_colors 0xFFFF 0x0000 ∷ byte_font 0x40 ∷ def_space 2 ∷ def_char_orient 2 1 ∷ abs_mov 12 5 ∷ char 0x3B 3 ∷ halt
    ∷ [])
    (blank 8)
    (ended 7 28 46 (neg 2) (pos 5) 0 0)
    (0b00000000_00000000 ∷
    0b00000000_00000000 ∷
    0b00001000_00000100 ∷
    0b00010000_00001000 ∷
    0b00001101_10000110 ∷
    0b00010101_00001010 ∷
    0b00000000_00000000 ∷
    0b00000000_00000000 ∷ []))
    -- The other two opcodes: A8 hex is opaque, A9 hex transparent, neither reversed; DEF_TEXTURE's transparency does not matter
    ∷ with_pieces (piece 0x3E (bytes (0x0008 ∷ [])) ∷
    piece 0x50 (bytes (0x0003 ∷ 0x0006 ∷ [])) ∷ [])
    (drawn (screen 8 2 2) (pane_row 0 0 8 2 88)
    (def_bitmap the_pane 7 1 2 ∷ def_colors 0xFFFF 0x5555 ∷ word_font 0x40 ∷ transparent 0xFFFF ∷ (0xA800 ∷ 0x003E ∷ 0x0000 ∷ 0x0001 ∷ [])
    ∷ opaque 0x0000 ∷ abs_mov 0 1 ∷ (0xA900 ∷ 0x003E ∷ 0x0000 ∷ 0x0001 ∷ []) ∷ halt ∷ [])
    (0b10_10_10_10_10_10_10_10 ∷
    0b10_10_10_10_10_10_10_10 ∷ [])
    (ended 8 6 54 (pos 4) (pos 1) 0 0)
    (0b01_11_11_01_10_10_10_10 ∷
    0b10_11_11_10_10_10_10_10 ∷ []))
    -- The largest cell, 16 by 16, cut by the pane on all sides but the left
    ∷ with_pieces (piece 0x32 (bytes (0x0000 ∷ [])) ∷
    piece 0x34 (bytes (0x0F0F ∷ 0xFFFF ∷ 0xFFFF ∷ 0x8001 ∷ 0xC003 ∷ 0xA005 ∷ 0x9009 ∷ 0x8811 ∷ 0x8421 ∷ [])) ∷ [])
    (drawn (screen 16 4 1) (pane_row 2 0 10 4 86)
    (def_bitmap the_pane 9 3 1 ∷ def_colors 0xFFFF 0x0000 ∷ word_font 0x34 ∷ abs_mov 1 (minus 2) ∷ char 0x32 1 ∷ halt ∷ [])
    (blank 4)
    (ended 5 36 38 (pos 17) (neg 2) 0 0)
    (0b00010000_00000000 ∷
    0b00011000_00000000 ∷
    0b00010100_00000000 ∷
    0b00010010_00000000 ∷ []))
    -- A clip cuts characters; one wholly outside still moves the position. Path 90 at rotation 270: it moves up by the width
    ∷ with_pieces (piece 0x44 (bytes (0x0000 ∷ 0x0000 ∷ [])) ∷
    piece 0x48 (bytes (0x0203 ∷ 0x000F ∷ 0x0009 ∷ 0x000F ∷ [])) ∷ [])
    (drawn (screen 16 8 1) (pane_row 0 0 16 8 80)
    (def_bitmap the_pane 15 7 1 ∷ def_colors 0xFFFF 0x0000 ∷ word_font 0x48 ∷ def_clip_rect 5 2 8 5 ∷ def_char_orient 1 3 ∷ abs_mov 7 6 ∷ char 0x44 2
    ∷ halt ∷ [])
    (blank 8)
    (ended 7 12 52 (pos 7) (neg 2) 0 0)
    (0b00000000_00000000 ∷
    0b00000000_00000000 ∷
    0b00000111_00000000 ∷
    0b00000101_00000000 ∷
    0b00000101_00000000 ∷
    0b00000111_00000000 ∷
    0b00000000_00000000 ∷
    0b00000000_00000000 ∷ []))
    -- Pick mode: a cell's zeros under transparency do not count; position and trap flag go on as ever
    ∷ with_pieces (piece 0x46 (bytes (0x0000 ∷ [])) ∷
    piece 0x48 (bytes (0x8003 ∷ 0x0000 ∷ [])) ∷ [])
    (drawn (screen 16 2 1) (pane_row 0 0 16 2 76)
    (def_bitmap the_pane 15 1 1 ∷ def_colors 0xFFFF 0x0000 ∷ word_font 0x48 ∷ enter_pick ∷ char_transparent 0x46 1 ∷ halt ∷ [])
    (blank 2)
    (ended 5 0 34 (pos 4) (pos 0) 0 1)
    (blank 2))
    -- The same, opaque: now they count
    ∷ with_pieces (piece 0x46 (bytes (0x0000 ∷ [])) ∷
    piece 0x48 (bytes (0x4003 ∷ 0x0000 ∷ [])) ∷ [])
    (drawn (screen 16 2 1) (pane_row 0 0 16 2 76)
    (def_bitmap the_pane 15 1 1 ∷ def_colors 0xFFFF 0x0000 ∷ word_font 0x48 ∷ enter_pick ∷ char 0x46 1 ∷ halt ∷ [])
    (blank 2)
    (ended 5 0 34 (pos 0) (pos 0) 1 0)
    (blank 2))
    -- CHAR on a bitmap in the store, between the list and the string
    ∷ storing (piece 0x48 (bytes (0x0000 ∷ [])) ∷
    piece 0x4A (bytes (0x0104 ∷ 0x0015 ∷ 0x000A ∷ [])) ∷ [])
    (piece 0x40 (painted 2 (0x02C4_A200 ∷ 0x0B3D_1B00 ∷ [])) ∷ [])
    (drawn (screen 16 1 1) (pane_row 0 0 16 1 80)
    (def_bitmap 0x40 5 1 4 ∷ def_colors 0x1234 0xABCD ∷ word_font 0x4A ∷ abs_mov 1 0 ∷ char 0x48 1 ∷ halt ∷ [])
    (blank 1)
    (ended 5 10 38 (pos 6) (pos 0) 0 0)
    (blank 1))
    ∷ []

pub char_pictures : outcomes table ≡ expectations table
unfolding machine outcomes
char_pictures = refl
