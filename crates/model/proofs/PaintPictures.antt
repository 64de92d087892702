-- Pictures of how much a page paints (02, A.5): the pixels drawn in a run, "a pixel drawn twice counting twice and pick mode counting none".
-- The expected values were worked out by a small program that was written from the sentences of the papers and from 003, and not from these
-- definitions; each picture was followed by hand too.
use mathlib.Core.Path.{◌≡◌, refl}
use mathlib.Core.List.{List, [], ◌∷◌}
use Prim.Native.Nat.{ℕ}
use native.Mathlib.Omega.{arith}
use lib.IntN.{ℤ, pos}
use Rattle.model.specs.Record.{fresh}
use Rattle.model.specs.Runs.{Finish, runs, PaintFits}
use Rattle.model.specs.Calls.{Request, on, start, run, started}
use Rattle.model.proofs.Computing.{machine}
use Rattle.model.proofs.Listings.{minus, the_pane, halt, def_bitmap, def_clip_rect, def_colors, def_logical_op, opaque, transparent, word_font, enter_pick}
use Rattle.model.proofs.Listings.{exit_pick, abs_mov, point, line, rect, scan_lines, circle, bit_blt, char, char_transparent, bytes, listing}
use Rattle.model.proofs.Scripts.{piece, script}
use Rattle.model.proofs.Pictures.{Picture, screen, pane_row, drawn, with_pieces, storing, painted, blank, lent, ended, outcomes, expectations}

-- so many commands done, so many pixels drawn, and then a fault: its number, pointer and position
abbrev faulted : ℕ → ℕ → ℕ → ℕ → ℤ → ℤ → List (List ℤ)
faulted n pixels fault pointer x y =
    (pos 0 ∷ pos n ∷ pos 3 ∷ pos fault ∷ pos pixels ∷ []) ∷ (pos 0 ∷ pos 3 ∷ pos fault ∷ pos pointer ∷ x ∷ y ∷ pos 0 ∷ pos 0 ∷ []) ∷ []

-- A page to be run whole and in parts: of a LINE of ten pixels five are in the clip, of which the pattern leaves one out; a LINE outside has none;
-- one of three pixels with one in the clip counts none in pick mode, and back after it one. 4 + 0 + 0 + 1
abbrev page : Picture
page =
    drawn (screen 16 2 1) (pane_row 0 0 16 2 62)
    (def_bitmap the_pane 15 1 1 ∷ def_clip_rect 3 0 7 1 ∷ transparent 0xFDFF ∷ line 9 0 ∷ line 5 5 ∷ enter_pick ∷ abs_mov 7 1 ∷ line 2 0 ∷ exit_pick
    ∷ line (minus 2) 0 ∷ halt ∷ [])
    (0b11111111_11111111 ∷
    0b11111111_11111111 ∷ [])
    (ended 10 5 60 (pos 7) (pos 1) 1 0)
    (0b11100010_11111111 ∷
    0b11111110_11111111 ∷ [])

abbrev table : List Picture
table =
    -- A pixel drawn twice counts twice: by XOR a LINE of 4 pixels and the same back take themselves out, and so do SCAN_LINES' two runs of 3; a copy
    -- puts 3 pixels onto themselves. 4 + 4 + 6 + 3
    with_pieces (piece 0x44 (bytes (0x0000 ∷ 0x0000 ∷ 0x0002 ∷ 0x0000 ∷ 0x0000 ∷ 0x0002 ∷ [])) ∷ [])
    (drawn (screen 8 2 1) (pane_row 0 0 8 2 80)
    (def_bitmap the_pane 7 1 1 ∷ def_colors 0xFFFF 0x0000 ∷ def_logical_op 0xFFFF 6 ∷ line 3 0 ∷ line (minus 3) 0 ∷ scan_lines 0x44 2
    ∷ def_logical_op 0xFFFF 5 ∷ abs_mov 2 1 ∷ bit_blt 2 1 2 0 ∷ halt ∷ [])
    (0b00110000_00000000 ∷
    0b00101000_00000000 ∷ [])
    (ended 9 17 66 (pos 4) (pos 1) 0 0)
    (0b00110000_00000000 ∷
    0b00101000_00000000 ∷ []))
    -- The pane's edge lets 3 of a LINE's 5 pixels be drawn; a clip from (2,0) to (5,1) then 4 of 10, no POINT at (9,1), and of a copy's 4 by 2
    -- pixels the left 2 by 2. 3 + 4 + 0 + 4
    ∷ drawn (screen 16 2 1) (pane_row 3 0 10 2 80)
    (def_bitmap the_pane 9 1 1 ∷ def_colors 0xFFFF 0x0000 ∷ abs_mov (minus 2) 0 ∷ line 4 0 ∷ def_clip_rect 2 0 5 1 ∷ abs_mov 0 1 ∷ line 9 0 ∷ point 0 0
    ∷ abs_mov 4 0 ∷ bit_blt 0 0 3 1 ∷ halt ∷ [])
    (blank 2)
    (ended 10 11 74 (pos 7) (pos 0) 0 0)
    (0b00011101_10000000 ∷
    0b00000110_00000000 ∷ [])
    -- A 0 under transparency is not drawn: of a LINE with the pattern 010100 the ones, of a POINT none, of a cell 101 the ones. Opaque, all are.
    -- 2 + 0 + 6 + 2 + 3. Not drawn is 10
    ∷ with_pieces (piece 0x5E (bytes (0x0000 ∷ [])) ∷ piece 0x60 (bytes (0x0002 ∷ 0x0005 ∷ [])) ∷ [])
    (drawn (screen 8 3 2) (pane_row 0 0 8 3 100)
    (def_bitmap the_pane 7 2 2 ∷ def_colors 0xFFFF 0x5555 ∷ transparent 0x5000 ∷ line 5 0 ∷ point 0 0 ∷ opaque 0x5000 ∷ abs_mov 0 1 ∷ line 5 0
    ∷ word_font 0x60 ∷ abs_mov 0 2 ∷ char_transparent 0x5E 1 ∷ char 0x5E 1 ∷ halt ∷ [])
    (0b10_10_10_10_10_10_10_10 ∷
    0b10_10_10_10_10_10_10_10 ∷
    0b10_10_10_10_10_10_10_10 ∷ [])
    (ended 12 13 78 (pos 6) (pos 2) 0 0)
    (0b10_11_10_11_10_10_10_10 ∷
    0b01_11_01_11_01_01_10_10 ∷
    0b11_10_11_11_01_11_10_10 ∷ []))
    -- Pick mode counts none, of a LINE and of a CIRCLE that set the flag; before it and after it pixels count. 1 + 0 + 3 + 0
    ∷ drawn (screen 8 1 1) (pane_row 0 0 8 1 48)
    (def_bitmap the_pane 7 0 1 ∷ def_colors 0xFFFF 0x0000 ∷ point 1 0 ∷ enter_pick ∷ line 3 0 ∷ exit_pick ∷ line (minus 2) 0 ∷ enter_pick ∷ circle 0
    ∷ halt ∷ [])
    (blank 1)
    (ended 9 4 46 (pos 2) (pos 0) 1 0)
    (0b01111000_00000000 ∷ [])
    -- Mask and operation do not matter: a LINE under mask 0, one by "destination", and a copy of zeros. 8 + 8 + 4
    ∷ drawn (screen 8 1 1) (pane_row 0 0 8 1 68)
    (def_bitmap the_pane 7 0 1 ∷ def_colors 0xFFFF 0x0000 ∷ def_logical_op 0x0000 5 ∷ line 7 0 ∷ def_logical_op 0xFFFF 3 ∷ line (minus 7) 0
    ∷ def_logical_op 0xFFFF 5 ∷ abs_mov 4 0 ∷ bit_blt 0 0 3 0 ∷ halt ∷ [])
    (0b00001010_00000000 ∷ [])
    (ended 9 20 64 (pos 7) (pos 0) 0 0)
    (0b00000000_00000000 ∷ [])
    -- Pixels of a bitmap in the store count too; RECT draws each corner once: of 4 by 3 pixels, then on the pane of 3 by 1 and of 1 by 1.
    -- 10 + 1 + 3 + 1
    ∷ storing []
    (piece 0x50 (painted 1 (0xFFFF ∷ 0xFF0F ∷ 0xFFFF ∷ [])) ∷ [])
    (drawn (screen 4 1 4) (pane_row 0 0 4 1 86)
    (def_bitmap 0x50 3 2 4 ∷ def_colors 0xFFFF 0x0000 ∷ rect 3 2 ∷ abs_mov 1 1 ∷ point 0 0 ∷ def_bitmap the_pane 3 0 4 ∷ abs_mov 0 0 ∷ rect 2 0
    ∷ rect 0 0 ∷ halt ∷ [])
    (blank 1)
    (ended 9 15 66 (pos 0) (pos 0) 0 0)
    (0xFFF0 ∷ []))
    -- Commands before a fault count, and the faulting one none: a LINE of 4 pixels, and a CHAR whose first cell, of 3 pixels, is good, and whose
    -- second lies outside the store
    ∷ with_pieces (piece 0x2C (bytes (0x0000 ∷ 0x7000 ∷ [])) ∷ piece 0x30 (bytes (0x0002 ∷ 0x0007 ∷ [])) ∷ [])
    (drawn (screen 8 1 1) (pane_row 0 0 8 1 52)
    (def_bitmap the_pane 7 0 1 ∷ def_colors 0xFFFF 0x0000 ∷ word_font 0x30 ∷ line 3 0 ∷ char 0x2C 2 ∷ halt ∷ [])
    (blank 1)
    (faulted 4 4 25 30 (pos 3) (pos 0))
    (0b11110000_00000000 ∷ []))
    ∷ page
    ∷ []

pub paint_pictures : outcomes table ≡ expectations table
unfolding machine outcomes
paint_pictures = refl

-- ## One run and two

-- what set-up, start and these calls are told on the page
abbrev told : List Request → List (List ℤ)
told cs = (script (lent page) (on 0 (start 0) ∷ cs)).told

-- runs of 4 and of 6 commands draw 4 pixels and 1, and a run of 10 draws 5
pub paint_adds :
    told (on 0 (run 4) ∷ on 0 (run 6) ∷ []) ∷ told (on 0 (run 10) ∷ []) ∷ []
    ≡ ((pos 0 ∷ []) ∷ (pos 0 ∷ []) ∷ (pos 0 ∷ pos 4 ∷ pos 1 ∷ pos 0 ∷ pos 4 ∷ []) ∷ (pos 0 ∷ pos 6 ∷ pos 1 ∷ pos 0 ∷ pos 1 ∷ []) ∷ [])
    ∷ ((pos 0 ∷ []) ∷ (pos 0 ∷ []) ∷ (pos 0 ∷ pos 10 ∷ pos 1 ∷ pos 0 ∷ pos 5 ∷ []) ∷ [])
    ∷ []
unfolding machine script
paint_adds = refl

-- ## 64 bits

-- the page, run to its end
abbrev page_run : Finish
page_run = runs page.geometry page.pane 99 (started fresh 0) (lent page).screen (listing page.commands)

-- it draws something
pub page_paint : page_run.paint ≡ 5
unfolding machine
page_paint = refl

-- and no more than is claimed of every run
pub page_fits : PaintFits 99 page_run
unfolding machine
page_fits = record { commands = omega arith; budgeted = omega arith; limited = omega arith; fits = omega arith }
