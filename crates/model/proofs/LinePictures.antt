-- Pictures of lines (01, "Pixels"): LINE, POINT, POLYLINE, SCAN_LINES, RECT, and the clip that cuts them.
-- The expected values were worked out by a small program that was written from the sentences of the papers and from 003, and not from these
-- definitions; the smaller pictures were followed by hand too.
use mathlib.Core.Path.{◌≡◌, refl}
use mathlib.Core.List.{List, [], ◌∷◌}
use lib.IntN.{pos}
use Rattle.model.specs.Figures.{neg, masked}
use lib.ListN.{get_or}
use Rattle.model.specs.Coordinates.{at}
use Rattle.model.specs.Dots.{Drawing, dot}
use Rattle.model.specs.Lines as lines
use Rattle.model.specs.declared.Source.TheVariants.{Nothing}
use Rattle.model.proofs.Computing.{machine}
use Rattle.model.proofs.Listings.{minus, the_pane, halt, def_bitmap, def_clip_rect, def_colors, def_logical_op, opaque, transparent, abs_mov, point, line, rect}
use Rattle.model.proofs.Listings.{polyline, scan_lines, bytes}
use Rattle.model.proofs.Scripts.{piece}
use Rattle.model.proofs.Pictures.{Picture, screen, pane_row, drawn, with_pieces, blank, ended, outcomes, expectations}

abbrev table : List Picture
table =
    -- LINE from the middle into each octant
    drawn (screen 16 11 1) (pane_row 0 0 16 11 120)
    (def_bitmap the_pane 15 10 1 ∷ def_colors 0xFFFF 0x0000 ∷ abs_mov 7 5 ∷ line 7 3 ∷ abs_mov 7 5 ∷ line 7 (minus 3) ∷ abs_mov 7 5
    ∷ line (minus 7) 3 ∷ abs_mov 7 5 ∷ line (minus 7) (minus 3) ∷ abs_mov 7 5 ∷ line 3 5 ∷ abs_mov 7 5 ∷ line (minus 3) 5 ∷ abs_mov 7 5
    ∷ line 3 (minus 5) ∷ abs_mov 7 5 ∷ line (minus 3) (minus 5) ∷ halt ∷ [])
    (blank 11)
    (ended 18 56 114 (pos 4) (pos 0) 0 0)
    (0b00001000_00100000 ∷
    0b00000100_01000000 ∷
    0b11000100_01000110 ∷
    0b00110010_10011000 ∷
    0b00001110_11100000 ∷
    0b00000011_10000000 ∷
    0b00001110_11100000 ∷
    0b00110010_10011000 ∷
    0b11000100_01000110 ∷
    0b00000100_01000000 ∷
    0b00001000_00100000 ∷ [])
    -- LINE along the axes and the diagonals, and of one pixel; the second opcode of LINE draws as the first
    ∷ drawn (screen 16 7 1) (pane_row 1 1 14 5 108)
    (def_bitmap the_pane 13 4 1 ∷ def_colors 0xFFFF 0x0000 ∷ abs_mov 0 0 ∷ line 4 4 ∷ line 4 (minus 4) ∷ (0x5500 ∷ 0x0005 ∷ 0x0000 ∷ [])
    ∷ line 0 4 ∷ line (minus 4) 0 ∷ line (minus 1) (minus 1) ∷ abs_mov 1 3 ∷ line 0 0 ∷ halt ∷ [])
    (blank 7)
    (ended 11 29 72 (pos 1) (pos 3) 0 0)
    (0b00000000_00000000 ∷
    0b01000000_01111110 ∷
    0b00100000_10000010 ∷
    0b00010001_00000010 ∷
    0b00101010_01000010 ∷
    0b00000100_00111110 ∷
    0b00000000_00000000 ∷ [])
    -- The pattern over more than 16 pixels, the first three clipped and counted; opaque, then transparent
    ∷ drawn (screen 24 2 2) (pane_row 1 0 22 2 64)
    (def_bitmap the_pane 21 1 2 ∷ def_colors 0xFFFF 0x5555 ∷ opaque 0xE8C5 ∷ abs_mov (minus 3) 0 ∷ line 23 0 ∷ transparent 0xE8C5 ∷ abs_mov 21 1
    ∷ line (minus 20) 0 ∷ halt ∷ [])
    (0b00_00_00_00_00_00_00_00_00_00_00_00_00_00_00_00_00_00_00_00_00_00_00_00 ∷
    0b10_10_10_10_10_10_10_10_10_10_10_10_10_10_10_10_10_10_10_10_10_10_10_10 ∷ [])
    (ended 8 33 50 (pos 1) (pos 1) 0 0)
    (0b00_01_11_01_01_01_11_11_01_01_01_11_01_11_11_11_11_01_11_01_01_01_00_00 ∷
    0b10_10_11_10_11_11_11_11_10_11_10_10_10_11_11_10_10_10_11_10_11_11_11_10 ∷ [])
    -- POINT uses pattern bit 15 alone: 1 foreground, 0 background, or nothing under transparency; outside the pane nothing
    ∷ drawn (screen 16 2 1) (pane_row 3 0 12 2 80)
    (def_bitmap the_pane 11 1 1 ∷ def_colors 0xFFFF 0x0000 ∷ opaque 0x8000 ∷ point 2 0 ∷ opaque 0x7FFF ∷ point 2 0 ∷ transparent 0x7FFF
    ∷ point 2 0 ∷ transparent 0x8000 ∷ point 2 1 ∷ point 4 0 ∷ point (minus 13) 0 ∷ halt ∷ [])
    (0b11111111_11111111 ∷
    0b00000000_00000000 ∷ [])
    (ended 12 3 70 (neg 1) (pos 1) 0 0)
    (0b11111110_11111111 ∷
    0b00000000_00010000 ∷ [])
    -- POINT moves by whole coordinates: from −32768 by −32768 comes back to 0, wrapped before the pixel is drawn
    ∷ drawn (screen 16 1 1) (pane_row 0 0 16 1 40)
    (def_bitmap the_pane 15 0 1 ∷ def_colors 0xFFFF 0x0000 ∷ abs_mov (minus 32768) 0 ∷ point (minus 32768) 0 ∷ halt ∷ [])
    (blank 1)
    (ended 4 1 30 (pos 0) (pos 0) 0 0)
    (0b10000000_00000000 ∷ [])
    -- POLYLINE, the pattern carried on through the joints of three lines (02, A.4); one leaves the pane. Then one of no lines
    ∷ with_pieces (piece 0x40 (bytes (0xFFFB ∷ 0xFFFE ∷ 0x0006 ∷ 0xFFFF ∷ 0x0004 ∷ 0x0002 ∷ [])) ∷ [])
    (drawn (screen 16 5 1) (pane_row 2 1 13 4 76)
    (def_bitmap the_pane 12 3 1 ∷ def_colors 0xFFFF 0x0000 ∷ opaque 0xD56B ∷ abs_mov 3 3 ∷ polyline 0x40 3 ∷ polyline 0x40 0 ∷ halt ∷ [])
    (blank 5)
    (ended 6 13 44 (pos 8) (pos 2) 0 0)
    (0b00000000_00000000 ∷
    0b00001100_00000000 ∷
    0b00100001_00000000 ∷
    0b00100000_01100000 ∷
    0b00001100_00000000 ∷ []))
    -- SCAN_LINES by XOR: lengths 5, 0 and −3, the pattern begun anew at each; the position stays at the last start
    ∷ with_pieces (piece 0x40 (bytes (0x0001 ∷ 0x0000 ∷ 0x0005 ∷ 0x0002 ∷ 0x0001 ∷ 0x0000 ∷ 0x0004 ∷ 0x0001 ∷ 0xFFFD ∷ [])) ∷ [])
    (drawn (screen 14 4 4) (pane_row 1 0 13 4 96)
    (def_bitmap the_pane 12 3 4 ∷ def_colors 0x1234 0xFFFF ∷ def_logical_op 0xFFFF 6 ∷ opaque 0xEC00 ∷ abs_mov 1 0 ∷ scan_lines 0x40 3 ∷ halt ∷ [])
    (0x0000_0000_0000_0000 ∷
    0x0000_0000_0000_0000 ∷
    0x1111_1111_1111_1111 ∷
    0x0000_0000_0000_0000 ∷ [])
    (ended 6 11 42 (pos 8) (pos 2) 0 0)
    (0x0004_12F4_1000_0000 ∷
    0x0000_0200_0000_0000 ∷
    0x1111_11E5_0311_1111 ∷
    0x0000_0000_0000_0000 ∷ []))
    -- RECT by XOR with each pair of signs: a pixel drawn twice would vanish. The pattern runs along x, along y, back along x, along y
    ∷ drawn (screen 16 7 1) (pane_row 0 0 16 7 96)
    (def_bitmap the_pane 15 6 1 ∷ def_colors 0xFFFF 0x0000 ∷ def_logical_op 0xFFFF 6 ∷ opaque 0xED35 ∷ abs_mov 0 0 ∷ rect 4 2 ∷ abs_mov 10 0
    ∷ rect (minus 4) 2 ∷ abs_mov 0 6 ∷ rect 4 (minus 2) ∷ abs_mov 10 6 ∷ rect (minus 4) (minus 2) ∷ halt ∷ [])
    (blank 7)
    (ended 12 48 76 (pos 10) (pos 6) 0 0)
    (0b11101010_11100000 ∷
    0b10001010_00100000 ∷
    0b10010001_00100000 ∷
    0b00000000_00000000 ∷
    0b10010001_00100000 ∷
    0b10001010_00100000 ∷
    0b11101010_11100000 ∷ [])
    -- RECT of no height, of no width, of one pixel; one high, one wide, both, also backwards; by XOR, with a pattern
    ∷ drawn (screen 32 6 1) (pane_row 0 0 32 6 152)
    (def_bitmap the_pane 31 5 1 ∷ def_colors 0xFFFF 0x0000 ∷ def_logical_op 0xFFFF 6 ∷ opaque 0xDAE7 ∷ abs_mov 0 0 ∷ rect 5 0 ∷ abs_mov 0 2
    ∷ rect 0 3 ∷ abs_mov 2 2 ∷ rect 0 0 ∷ abs_mov 4 2 ∷ rect 5 1 ∷ abs_mov 11 2 ∷ rect 1 3 ∷ abs_mov 14 2 ∷ rect 1 1 ∷ abs_mov 22 3
    ∷ rect (minus 5) (minus 1) ∷ abs_mov 25 5 ∷ rect (minus 1) (minus 3) ∷ abs_mov 31 0 ∷ rect (minus 5) 0 ∷ halt ∷ [])
    (blank 6)
    (ended 22 61 136 (pos 31) (pos 0) 0 0)
    (0b11011000_00000000_00000000_00011011 ∷
    0b00000000_00000000_00000000_00000000 ∷
    0b10101101_10011011_01011100_10000000 ∷
    0b10000111_01000010_00110110_11000000 ∷
    0b00000000_00011000_00000000_00000000 ∷
    0b10000000_00001000_00000000_11000000 ∷ [])
    -- RECT with three sides outside the pane: their pixels count in the pattern, each once
    ∷ drawn (screen 16 3 1) (pane_row 2 1 12 2 40)
    (def_bitmap the_pane 11 1 1 ∷ def_colors 0xFFFF 0x0000 ∷ opaque 0x02CB ∷ abs_mov (minus 2) (minus 2) ∷ rect 4 3 ∷ halt ∷ [])
    (blank 3)
    (ended 5 4 34 (neg 2) (neg 2) 0 0)
    (0b00000000_00000000 ∷
    0b00001000_00000000 ∷
    0b00110000_00000000 ∷ [])
    -- A clip from (3,1) to (9,3), both corners in, cuts a LINE, a RECT and a scan line, and lets POINTs stand in its corners
    ∷ with_pieces (piece 0x60 (bytes (0x000D ∷ 0x0003 ∷ 0xFFF3 ∷ [])) ∷ [])
    (drawn (screen 16 5 1) (pane_row 1 0 14 5 112)
    (def_bitmap the_pane 13 4 1 ∷ def_colors 0xFFFF 0x0000 ∷ def_clip_rect 3 1 9 3 ∷ rect 11 2 ∷ line 12 4 ∷ abs_mov 0 0 ∷ scan_lines 0x60 1
    ∷ abs_mov 9 1 ∷ point 0 0 ∷ point 0 2 ∷ halt ∷ [])
    (blank 5)
    (ended 10 23 72 (pos 9) (pos 3) 0 0)
    (0b00000000_00000000 ∷
    0b00001100_00100000 ∷
    0b00001111_11100000 ∷
    0b00001111_11100000 ∷
    0b00000000_00000000 ∷ []))
    -- A maximum below its minimum lets nothing be drawn
    ∷ drawn (screen 16 3 1) (pane_row 0 0 16 3 64)
    (def_bitmap the_pane 15 2 1 ∷ def_colors 0xFFFF 0x0000 ∷ def_clip_rect 5 1 4 1 ∷ line 9 2 ∷ def_clip_rect 0 2 15 1 ∷ line (minus 9) (minus 2)
    ∷ halt ∷ [])
    (blank 3)
    (ended 6 0 50 (pos 0) (pos 0) 0 0)
    (blank 3)
    ∷ []

pub line_pictures : outcomes table ≡ expectations table
unfolding machine outcomes
line_pictures = refl

-- ## Whole numbers

-- LINE from −32768 by −32768: its last pixel is at −65536, not wrapped, and the position it leaves is
abbrev far_line : Drawing
far_line = lines.line (masked 0xFFFF) (record { x = 0x8000; y = 0 }) (neg 32768) (pos 0)

pub line_unwrapped : (get_or far_line.dots 32768 (dot (at (pos 0) (pos 0)) Nothing)).place ≡ at (neg 65536) (pos 0)
unfolding machine
line_unwrapped = refl

pub line_wrapped : far_line.position ≡ record { x = 0; y = 0 }
unfolding machine
line_wrapped = refl
