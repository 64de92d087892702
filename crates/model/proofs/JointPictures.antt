-- Pictures of POLYLINE's joints (02, A.4): the pattern goes on through them, and no later segment draws its first pixel.
-- The expected values were worked out by a small program that was written from the sentences of the papers and from 003, and not from these
-- definitions; each picture was followed by hand too.
use mathlib.Core.Path.{◌≡◌, refl}
use mathlib.Core.Bool.{false}
use mathlib.Core.List.{List, [], ◌∷◌}
use Prim.Native.Nat.{ℕ, suc}
use native.Mathlib.Numerals.{unary_clauses}
use lib.IntN.{ℤ, pos}
use Rattle.model.specs.Figures.{neg}
use Rattle.model.specs.Ranges.{listed}
use Rattle.model.specs.Coordinates.{Place, at, offset}
use Rattle.model.specs.Pixels.{Pen, pattern_source}
use Rattle.model.specs.Dots.{Drawing, dot}
use Rattle.model.specs.Lines.{major, offset_x, offset_y, segment_dots, line_dots}
use Rattle.model.specs.Lines as lines
use Rattle.model.specs.declared.Source.TheVariants.{Colour}
use Rattle.model.proofs.Computing.{machine}
use Rattle.model.proofs.Listings.{the_pane, halt, def_bitmap, def_clip_rect, def_colors, def_logical_op, opaque, transparent, abs_mov, polyline}
use Rattle.model.proofs.Listings.{scan_lines, bytes}
use Rattle.model.proofs.Scripts.{piece}
use Rattle.model.proofs.Pictures.{Picture, screen, pane_row, drawn, with_pieces, blank, ended, outcomes, expectations}

-- ## Pictures

-- At depth 2 a pixel not drawn is 10, one of the foreground 11, and one of the background 01, unless the picture says otherwise
abbrev table : List Picture
table =
    -- Dashes through two joints, from a sloped segment to a level one to a steep one: indexes 0 to 4, 5 to 8 and 9 to 11. Not drawn is 1,
    -- foreground C and background 5; both joints are of the background, and drawn again with index 0 would be C
    with_pieces (piece 0x20 (bytes (0x0004 ∷ 0x0002 ∷ 0x0004 ∷ 0x0000 ∷ 0xFFFF ∷ 0x0003 ∷ [])) ∷ [])
    (drawn (screen 12 6 4) (pane_row 1 0 11 6 44)
    (def_bitmap the_pane 10 5 4 ∷ def_colors 0xCCCC 0x5555 ∷ opaque 0xB26D ∷ polyline 0x20 3 ∷ halt ∷ [])
    (0x1111_1111_1111 ∷
    0x1111_1111_1111 ∷
    0x1111_1111_1111 ∷
    0x1111_1111_1111 ∷
    0x1111_1111_1111 ∷
    0x1111_1111_1111 ∷ [])
    (ended 4 12 30 (pos 7) (pos 5) 0 0)
    (0x1C11_1111_1111 ∷
    0x115C_1111_1111 ∷
    0x1111_C55C_5511 ∷
    0x1111_1111_1C11 ∷
    0x1111_1111_C111 ∷
    0x1111_1111_5111 ∷ []))
    -- Level segments of more than 16 pixels after a joint, one to the right and one to the left: each passes index 15 and goes on with bit 15
    ∷ with_pieces (piece 0x28 (bytes (0x0000 ∷ 0x0001 ∷ 0x0012 ∷ 0x0000 ∷ 0x0000 ∷ 0x0002 ∷ 0xFFEF ∷ 0x0000 ∷ [])) ∷ [])
    (drawn (screen 24 4 2) (pane_row 2 0 21 4 56)
    (def_bitmap the_pane 20 3 2 ∷ def_colors 0xFFFF 0x5555 ∷ opaque 0xE8C5 ∷ abs_mov 1 0 ∷ polyline 0x28 4 ∷ halt ∷ [])
    (0b10_10_10_10_10_10_10_10_10_10_10_10_10_10_10_10_10_10_10_10_10_10_10_10 ∷
    0b10_10_10_10_10_10_10_10_10_10_10_10_10_10_10_10_10_10_10_10_10_10_10_10 ∷
    0b10_10_10_10_10_10_10_10_10_10_10_10_10_10_10_10_10_10_10_10_10_10_10_10 ∷
    0b10_10_10_10_10_10_10_10_10_10_10_10_10_10_10_10_10_10_10_10_10_10_10_10 ∷ [])
    (ended 5 39 36 (pos 2) (pos 3) 0 0)
    (0b10_10_10_11_10_10_10_10_10_10_10_10_10_10_10_10_10_10_10_10_10_10_10_10 ∷
    0b10_10_10_11_11_01_11_01_01_01_11_11_01_01_01_11_01_11_11_11_11_01_10_10 ∷
    0b10_10_10_10_10_10_10_10_10_10_10_10_10_10_10_10_10_10_10_10_10_11_10_10 ∷
    0b10_10_10_10_01_01_11_01_11_11_11_11_01_11_01_01_01_11_11_01_01_01_10_10 ∷ []))
    -- Segments of length 0, by XOR (foreground 01, background 11): a first one is one pixel with index 0; a later one, or two in a row, draws
    -- nothing and takes no index. Then the same array from its third pair on: a first one of length 0 and a second
    ∷ with_pieces (piece 0x38 (bytes
    (0x0000 ∷ 0x0000 ∷ 0x0003 ∷ 0x0000 ∷ 0x0000 ∷ 0x0000 ∷ 0x0000 ∷ 0x0000 ∷ 0x0000 ∷ 0x0002 ∷ 0x0000 ∷ 0x0000 ∷ [])) ∷ [])
    (drawn (screen 8 3 2) (pane_row 1 0 7 3 80)
    (def_bitmap the_pane 6 2 2 ∷ def_colors 0xFFFF 0x5555 ∷ def_logical_op 0xFFFF 6 ∷ opaque 0xB600 ∷ polyline 0x38 6 ∷ abs_mov 5 0 ∷ polyline 0x40 4
    ∷ halt ∷ [])
    (0b10_10_10_10_10_10_10_10 ∷
    0b10_10_10_10_10_10_10_10 ∷
    0b10_10_10_10_10_10_10_10 ∷ [])
    (ended 7 9 50 (pos 5) (pos 2) 0 0)
    (0b10_01_11_01_01_10_01_10 ∷
    0b10_10_10_10_11_10_11_10 ∷
    0b10_10_10_10_01_10_01_10 ∷ []))
    -- By XOR: a closed rectangle and a closed triangle keep their corners, and the last segment takes out the start; to and fro leaves the turn
    ∷ with_pieces (piece 0x48 (bytes (0x0005 ∷ 0x0000 ∷ 0x0000 ∷ 0x0003 ∷ 0xFFFB ∷ 0x0000 ∷ 0x0000 ∷ 0xFFFD ∷ []))
    ∷ piece 0x58 (bytes (0x0003 ∷ 0xFFFD ∷ 0x0003 ∷ 0x0003 ∷ 0xFFFA ∷ 0x0000 ∷ []))
    ∷ piece 0x64 (bytes (0x0004 ∷ 0x0000 ∷ 0xFFFC ∷ 0x0000 ∷ [])) ∷ [])
    (drawn (screen 16 6 1) (pane_row 0 0 16 6 108)
    (def_bitmap the_pane 15 5 1 ∷ def_colors 0xFFFF 0x0000 ∷ def_logical_op 0xFFFF 6 ∷ abs_mov 1 0 ∷ polyline 0x48 4 ∷ abs_mov 9 3 ∷ polyline 0x58 3
    ∷ abs_mov 2 5 ∷ polyline 0x64 2 ∷ halt ∷ [])
    (blank 6)
    (ended 9 39 66 (pos 2) (pos 5) 0 0)
    (0b00111110_00001000 ∷
    0b01000010_00010100 ∷
    0b01000010_00100010 ∷
    0b01111110_00111111 ∷
    0b00000000_00000000 ∷
    0b00000010_00000000 ∷ []))
    -- A clip from (2,1) to (9,3), and joints outside it: (6,−1) above the pane and (13,3) in it. Pixels there count, and none is drawn
    ∷ with_pieces (piece 0x30 (bytes (0x0004 ∷ 0xFFFC ∷ 0x0003 ∷ 0x0004 ∷ 0x0004 ∷ 0x0000 ∷ 0xFFFC ∷ 0xFFFE ∷ [])) ∷ [])
    (drawn (screen 16 5 2) (pane_row 1 0 14 5 64)
    (def_bitmap the_pane 13 4 2 ∷ def_clip_rect 2 1 9 3 ∷ def_colors 0xFFFF 0x5555 ∷ opaque 0x89A6 ∷ abs_mov 2 3 ∷ polyline 0x30 4 ∷ halt ∷ [])
    (0b10_10_10_10_10_10_10_10_10_10_10_10_10_10_10_10 ∷
    0b10_10_10_10_10_10_10_10_10_10_10_10_10_10_10_10 ∷
    0b10_10_10_10_10_10_10_10_10_10_10_10_10_10_10_10 ∷
    0b10_10_10_10_10_10_10_10_10_10_10_10_10_10_10_10 ∷
    0b10_10_10_10_10_10_10_10_10_10_10_10_10_10_10_10 ∷ [])
    (ended 6 7 46 (pos 9) (pos 1) 0 0)
    (0b10_10_10_10_10_10_10_10_10_10_10_10_10_10_10_10 ∷
    0b10_10_10_10_10_01_10_10_10_01_11_10_10_10_10_10 ∷
    0b10_10_10_10_01_10_10_10_10_11_10_10_10_10_10_10 ∷
    0b10_10_10_11_10_10_10_10_10_10_11_10_10_10_10_10 ∷
    0b10_10_10_10_10_10_10_10_10_10_10_10_10_10_10_10 ∷ []))
    -- A second POLYLINE, transparent, begins with index 0 again, and draws its first pixel over the last of the one before; SCAN_LINES begins anew
    -- at each run
    ∷ with_pieces (piece 0x34 (bytes (0x0003 ∷ 0x0000 ∷ 0x0000 ∷ 0x0002 ∷ []))
    ∷ piece 0x3C (bytes (0x0002 ∷ 0xFFFC ∷ 0x0003 ∷ 0x0000 ∷ 0x0002 ∷ 0x0002 ∷ 0x0003 ∷ 0x0002 ∷ 0xFFFE ∷ [])) ∷ [])
    (drawn (screen 16 5 2) (pane_row 2 0 12 5 78)
    (def_bitmap the_pane 11 4 2 ∷ def_colors 0xFFFF 0x5555 ∷ opaque 0xA2EB ∷ polyline 0x34 2 ∷ transparent 0xA2EB ∷ polyline 0x34 2
    ∷ scan_lines 0x3C 3 ∷ halt ∷ [])
    (0b10_10_10_10_10_10_10_10_10_10_10_10_10_10_10_10 ∷
    0b10_10_10_10_10_10_10_10_10_10_10_10_10_10_10_10 ∷
    0b10_10_10_10_10_10_10_10_10_10_10_10_10_10_10_10 ∷
    0b10_10_10_10_10_10_10_10_10_10_10_10_10_10_10_10 ∷
    0b10_10_10_10_10_10_10_10_10_10_10_10_10_10_10_10 ∷ [])
    (ended 7 14 50 (pos 11) (pos 4) 0 0)
    (0b10_10_11_01_11_01_10_10_10_10_11_10_11_10_10_10 ∷
    0b10_10_10_10_10_01_10_10_10_10_10_10_10_10_10_10 ∷
    0b10_10_10_10_10_11_10_11_10_10_11_10_11_10_10_10 ∷
    0b10_10_10_10_10_10_10_10_10_10_10_10_10_10_10_10 ∷
    0b10_10_10_10_10_10_10_10_10_10_10_11_10_11_10_10 ∷ []))
    ∷ []

pub joint_pictures : outcomes table ≡ expectations table
unfolding machine outcomes
joint_pictures = refl

-- ## Whole numbers

abbrev dashed : Pen
dashed = record { fore = 0xF; back = 0xB; op = 5; mask = 0xFFFF; pattern = 0xA740; transparent = false }

-- from (32765,−32767) by (5,−3), by (−1,2) and by (1,0)
abbrev far_polyline : Drawing
far_polyline =
    lines.polyline dashed (record { x = 0x7FFD; y = 0x8001 })
    (record { dx = pos 5; dy = neg 3 } ∷ record { dx = neg 1; dy = pos 2 } ∷ record { dx = pos 1; dy = pos 0 } ∷ [])

-- The first segment's pixels pass 32767 and −32768 and are not wrapped; the position is, to (−32766,32766), and the second segment skips that
-- pixel. At its end the position wraps from 32768 to −32768, and the third skips (−32767,−32768). The pattern goes on: 101001, 11, 0
pub polyline_unwrapped :
    far_polyline.dots
    ≡ dot (at (pos 32765) (neg 32767)) (Colour 0xF)
    ∷ dot (at (pos 32766) (neg 32768)) (Colour 0xB)
    ∷ dot (at (pos 32767) (neg 32768)) (Colour 0xF)
    ∷ dot (at (pos 32768) (neg 32769)) (Colour 0xB)
    ∷ dot (at (pos 32769) (neg 32769)) (Colour 0xB)
    ∷ dot (at (pos 32770) (neg 32770)) (Colour 0xF)
    ∷ dot (at (neg 32767) (pos 32767)) (Colour 0xF)
    ∷ dot (at (neg 32767) (pos 32768)) (Colour 0xF)
    ∷ dot (at (neg 32766) (neg 32768)) (Colour 0xB)
    ∷ []
unfolding machine
polyline_unwrapped = refl

pub polyline_wrapped : far_polyline.position ≡ record { x = 0x8002; y = 0x8000 }
unfolding machine
polyline_wrapped = refl

-- ## What did not change, and what draws nothing

-- LINE's pixels, and so SCAN_LINES', are those of 01, to the letter
pub line_dots_lem :
    (pen : Pen) (p : Place) (dx dy : ℤ) →
    line_dots pen p dx dy ≡ listed 0 (suc (major dx dy)) (λ i. dot (offset p (offset_x dx dy i) (offset_y dx dy i)) (pattern_source pen i))
unfolding segment_dots
line_dots_lem pen p dx dy = simp unary_clauses refl

-- "A segment of length 0 after the first draws nothing"
pub segment_none : (pen : Pen) (p : Place) (index : ℕ) → segment_dots pen p (pos 0) (pos 0) 1 index ≡ []
unfolding segment_dots listed
segment_none pen p index = refl
