-- Pictures of how a list goes on (01, "One command"): CALL, RETURN, LINK, reserved bits, a list that draws over itself.
-- The expected values were worked out by a small program that was written from the sentences of the paper and from 003, and not from these
-- definitions; the smaller pictures were followed by hand too.
use mathlib.Core.Path.{◌≡◌, refl}
use mathlib.Core.List.{List, [], ◌∷◌}
use lib.IntN.{pos}
use Rattle.model.proofs.Computing.{machine}
use Rattle.model.proofs.Listings.{the_pane, nop, halt, link, call, def_bitmap, def_clip_rect, def_colors, abs_mov, rel_mov, point, line, bytes}
use Rattle.model.proofs.Scripts.{piece}
use Rattle.model.proofs.Pictures.{Picture, screen, pane_row, drawn, with_pieces, storing, blank, ended, outcomes, expectations}

abbrev table : List Picture
table =
    -- CALL twice, the second with a CALL of its own in it, and LINK over a list that would fault; each list draws a POINT further on
    with_pieces (piece 0x40 (bytes (0x5300 ∷ 0x0001 ∷ 0x0000 ∷ 0x1700 ∷ [])) ∷
    piece 0x50 (bytes (0x5300 ∷ 0x0002 ∷ 0x0000 ∷ 0x0F00 ∷ 0x0040 ∷ 0x0000 ∷ 0x5300 ∷ 0x0003 ∷ 0x0000 ∷ 0x1700 ∷ [])) ∷ [])
    (drawn (screen 16 1 1) (pane_row 0 0 16 1 100)
    (def_bitmap the_pane 15 0 1 ∷ def_colors 0xFFFF 0x0000 ∷ call 0x40 ∷ nop ∷ call 0x50 ∷ link 0x2A ∷ (0xFF00 ∷ []) ∷ (0xFF00 ∷ [])
    ∷ point 5 0 ∷ halt ∷ [])
    (blank 1)
    (ended 15 5 48 (pos 12) (pos 0) 0 0)
    (0b01011001_00001000 ∷ []))
    -- Reserved bits do not count: those of the first word, and those of an upper address word
    ∷ drawn (screen 16 1 1) (pane_row 0 0 16 1 64)
    ((0x1AFE ∷ 0x0000 ∷ 0xFFE0 ∷ 0x000F ∷ 0x0000 ∷ 0x0001 ∷ []) ∷ (0x3D80 ∷ 0xFFFF ∷ 0x0000 ∷ []) ∷ (0x02AA ∷ 0x0018 ∷ 0x1240 ∷ [])
    ∷ (0x5354 ∷ 0x0003 ∷ 0x0000 ∷ []) ∷ halt ∷ [])
    (blank 1)
    (ended 4 1 30 (pos 3) (pos 0) 0 0)
    (0b00010000_00000000 ∷ [])
    -- A list that draws over a command still to come: LINE sets all bits of the dx of POINT, which moves by −1 then
    ∷ storing []
    (piece 0x2C (bytes (0xFFFF ∷ [])) ∷ [])
    (drawn (screen 16 1 1) (pane_row 0 0 16 1 64)
    (def_bitmap 0x2C 15 0 1 ∷ def_colors 0xFFFF 0x0000 ∷ line 15 0 ∷ def_bitmap the_pane 15 0 1 ∷ abs_mov 4 0 ∷ point 0 0 ∷ halt ∷ [])
    (blank 1)
    (ended 6 17 48 (pos 3) (pos 0) 0 0)
    (0b00010000_00000000 ∷ []))
    -- DEF_BITMAP keeps the position and sets the clip to the whole bitmap anew
    ∷ drawn (screen 16 1 1) (pane_row 0 0 16 1 64)
    (def_bitmap the_pane 15 0 1 ∷ def_colors 0xFFFF 0x0000 ∷ def_clip_rect 3 0 5 0 ∷ rel_mov 4 0 ∷ def_bitmap the_pane 15 0 1 ∷ line 8 0 ∷ halt ∷ [])
    (blank 1)
    (ended 6 9 52 (pos 12) (pos 0) 0 0)
    (0b00001111_11111000 ∷ [])
    ∷ []

pub list_pictures : outcomes table ≡ expectations table
unfolding machine outcomes
list_pictures = refl
