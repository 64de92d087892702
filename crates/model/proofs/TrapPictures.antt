-- Pictures of a run that stops at a T (02, A.7): "With the switch on, a CHAR that met a T is finished, counted, and leaves status 4; run on status 4
-- clears the flag, makes the status 1, .. and goes on with the next command". Followed by hand.
use mathlib.Core.Path.{◌≡◌, refl}
use mathlib.Core.List.{List, [], ◌∷◌}
use Prim.Native.Nat.{ℕ}
use lib.IntN.{ℤ, pos}
use Rattle.model.specs.Calls.{on, run, look, switch}
use Rattle.model.proofs.Computing.{machine}
use Rattle.model.proofs.Listings.{the_pane, halt, def_bitmap, def_clip_rect, def_colors, byte_font, enter_pick, exit_pick, point, char, bytes}
use Rattle.model.proofs.Scripts.{Piece, piece}
use Rattle.model.proofs.Pictures.{Picture, screen, pane_row, drawn, with_pieces, calling, blank, outcomes, expectations}

-- the string of codes 0, 1, 0 at an address, and four bytes on a font: code 0 is 2 by 1, a row 11, and has T; code 1 is 1 by 2, rows 0 and 1
abbrev text : ℕ → List Piece
text a = piece a (0 ∷ 1 ∷ 0 ∷ 0 ∷ bytes (2 ∷ 4 ∷ 0x8001 ∷ 0x0003 ∷ 0x0100 ∷ 0x0000 ∷ 0x0001 ∷ [])) ∷ []

-- what set-up and start are told is a picture's own; then a call that is accepted, a run's commands, status and pixels, and a look at status,
-- pointer, position and flags
abbrev accepted : List ℤ
accepted = pos 0 ∷ []

abbrev ran : ℕ → ℕ → ℕ → List ℤ
ran commands status pixels = pos 0 ∷ pos commands ∷ pos status ∷ pos 0 ∷ pos pixels ∷ []

abbrev stands : ℕ → ℕ → ℕ → ℕ → ℕ → ℕ → List ℤ
stands status pointer x y pick trap = pos 0 ∷ pos status ∷ pos 0 ∷ pos pointer ∷ pos x ∷ pos y ∷ pos pick ∷ pos trap ∷ []

abbrev table : List Picture
table =
    -- A string with two T's is drawn whole, 2 + 2 + 2 pixels, and stops the run once; POINT is left to the next
    calling (on 0 (switch 1) ∷ on 0 (run 99) ∷ on 0 look ∷ on 0 (run 99) ∷ on 0 look ∷ [])
    (with_pieces (text 0x28)
    (drawn (screen 8 2 1) (pane_row 0 0 8 2 58)
    (def_bitmap the_pane 7 1 1 ∷ def_colors 0xFFFF 0x0000 ∷ byte_font 0x2C ∷ char 0x28 3 ∷ point 1 1 ∷ halt ∷ [])
    (blank 2)
    (accepted ∷ ran 4 4 6 ∷ stands 4 32 5 0 0 1 ∷ ran 1 2 1 ∷ stands 2 38 6 1 0 0 ∷ [])
    (0b11011000_00000000 ∷
    0b00100010_00000000 ∷ [])))
    -- A T outside the clip stops the run, and one in pick mode; a CHAR without a T does not
    ∷ calling (on 0 (switch 1) ∷ on 0 (run 99) ∷ on 0 look ∷ on 0 (run 99) ∷ on 0 look ∷ on 0 (run 99) ∷ on 0 look ∷ [])
    (with_pieces (text 0x3A)
    (drawn (screen 8 2 1) (pane_row 0 0 8 2 76)
    (def_bitmap the_pane 7 1 1 ∷ byte_font 0x3E ∷ def_clip_rect 2 0 7 1 ∷ char 0x3A 1 ∷ enter_pick ∷ char 0x3A 1 ∷ exit_pick ∷ char 0x3B 1 ∷ halt ∷ [])
    (0b11111111_11111111 ∷
    0b11111111_11111111 ∷ [])
    (accepted ∷ ran 4 4 0 ∷ stands 4 36 2 0 0 1 ∷ ran 2 4 0 ∷ stands 4 46 4 0 1 1 ∷ ran 2 2 2 ∷ stands 2 56 5 0 1 0 ∷ [])
    (0b11110111_11111111 ∷
    0b11110111_11111111 ∷ [])))
    -- With the switch off a T sets the flag alone; turned on then, the switch lets a CHAR without a T pass, though the flag is set
    ∷ calling (on 0 (run 3) ∷ on 0 (switch 1) ∷ on 0 (run 1) ∷ on 0 look ∷ [])
    (with_pieces (text 0x24)
    (drawn (screen 8 2 1) (pane_row 0 0 8 2 54)
    (def_bitmap the_pane 7 1 1 ∷ byte_font 0x28 ∷ char 0x24 1 ∷ char 0x25 1 ∷ halt ∷ [])
    (0b11111111_11111111 ∷
    0b11111111_11111111 ∷ [])
    (ran 3 1 2 ∷ accepted ∷ ran 1 1 2 ∷ stands 1 34 3 0 0 1 ∷ [])
    (0b00011111_11111111 ∷
    0b11011111_11111111 ∷ [])))
    ∷ []

pub trap_pictures : outcomes table ≡ expectations table
unfolding machine outcomes
trap_pictures = refl
