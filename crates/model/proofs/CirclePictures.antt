-- Pictures of CIRCLE (02, A.1), and its points for small radii.
-- The expected values were worked out by a small program that was written from the sentences of the papers and from 003, and not from these
-- definitions; the smaller pictures were followed by hand too.
use mathlib.Core.Path.{◌≡◌, refl}
use mathlib.Core.List.{List, [], ◌∷◌, map}
use Prim.Native.Nat.{ℕ}
use lib.IntN.{pos}
use lib.ListN.{length}
use Rattle.model.specs.Figures.{neg, masked}
use Rattle.model.specs.Coordinates.{at}
use Rattle.model.specs.Dots.{Dot, Drawing}
use Rattle.model.specs.Circles as circles
use Rattle.model.proofs.Computing.{machine}
use Rattle.model.proofs.Listings.{minus, the_pane, halt, def_bitmap, def_clip_rect, def_colors, def_logical_op, opaque, transparent, enter_pick, abs_mov, rel_mov}
use Rattle.model.proofs.Listings.{circle}
use Rattle.model.proofs.Scripts.{piece}
use Rattle.model.proofs.Pictures.{Picture, screen, pane_row, drawn, storing, painted, blank, ended, outcomes, expectations}

abbrev table : List Picture
table =
    -- Radii 0, 1, 2 and 3 beside each other, each from where the one before left the position: at its centre
    drawn (screen 20 7 1) (pane_row 0 0 20 7 80)
    (def_bitmap the_pane 19 6 1 ∷ def_colors 0xFFFF 0x0000 ∷ abs_mov 0 3 ∷ circle 0 ∷ rel_mov 3 0 ∷ circle 1 ∷ rel_mov 5 0 ∷ circle 2 ∷ rel_mov 7 0
    ∷ circle 3 ∷ halt ∷ [])
    (blank 7)
    (ended 10 33 58 (pos 15) (pos 3) 0 0)
    (0b00000000_00000011_10000000_00000000 ∷
    0b00000001_11000100_01000000_00000000 ∷
    0b00010010_00101000_00100000_00000000 ∷
    0b10101010_00101000_00100000_00000000 ∷
    0b00010010_00101000_00100000_00000000 ∷
    0b00000001_11000100_01000000_00000000 ∷
    0b00000000_00000011_10000000_00000000 ∷ [])
    -- Radius 4 meets both bounds: (2,3) has r² − i² = j × (j+1) and is in, (2,4) has j × (j−1) = r² − i² and is not
    ∷ drawn (screen 9 9 1) (pane_row 0 0 9 9 40)
    (def_bitmap the_pane 8 8 1 ∷ def_colors 0xFFFF 0x0000 ∷ abs_mov 4 4 ∷ circle 4 ∷ halt ∷ [])
    (blank 9)
    (ended 4 24 28 (pos 4) (pos 4) 0 0)
    (0b00011100_00000000 ∷
    0b01100011_00000000 ∷
    0b01000001_00000000 ∷
    0b10000000_10000000 ∷
    0b10000000_10000000 ∷
    0b10000000_10000000 ∷
    0b01000001_00000000 ∷
    0b01100011_00000000 ∷
    0b00011100_00000000 ∷ [])
    -- Radii 8 and 5 about one centre
    ∷ drawn (screen 17 17 1) (pane_row 0 0 17 17 40)
    (def_bitmap the_pane 16 16 1 ∷ def_colors 0xFFFF 0x0000 ∷ abs_mov 8 8 ∷ circle 8 ∷ circle 5 ∷ halt ∷ [])
    (blank 17)
    (ended 5 72 32 (pos 8) (pos 8) 0 0)
    (0b00000011_11100000_00000000_00000000 ∷
    0b00001100_00011000_00000000_00000000 ∷
    0b00010000_00000100_00000000_00000000 ∷
    0b00100011_11100010_00000000_00000000 ∷
    0b01000100_00010001_00000000_00000000 ∷
    0b01001000_00001001_00000000_00000000 ∷
    0b10010000_00000100_10000000_00000000 ∷
    0b10010000_00000100_10000000_00000000 ∷
    0b10010000_00000100_10000000_00000000 ∷
    0b10010000_00000100_10000000_00000000 ∷
    0b10010000_00000100_10000000_00000000 ∷
    0b01001000_00001001_00000000_00000000 ∷
    0b01000100_00010001_00000000_00000000 ∷
    0b00100011_11100010_00000000_00000000 ∷
    0b00010000_00000100_00000000_00000000 ∷
    0b00001100_00011000_00000000_00000000 ∷
    0b00000011_11100000_00000000_00000000 ∷ [])
    -- Depth 2, radius 4: the pane's edge cuts it at the left and the top, the clip at the right and the bottom
    ∷ drawn (screen 12 8 2) (pane_row 2 1 9 7 48)
    (def_bitmap the_pane 8 6 2 ∷ def_colors 0x6DB6 0x0000 ∷ def_clip_rect 0 0 6 5 ∷ abs_mov 3 2 ∷ circle 4 ∷ halt ∷ [])
    (blank 8)
    (ended 5 8 38 (pos 3) (pos 2) 0 0)
    (0b00_00_00_00_00_00_00_00_00_00_00_00_00_00_00_00 ∷
    0b00_00_11_00_00_00_00_00_01_00_00_00_00_00_00_00 ∷
    0b00_00_00_00_00_00_00_00_00_00_00_00_00_00_00_00 ∷
    0b00_00_00_00_00_00_00_00_00_00_00_00_00_00_00_00 ∷
    0b00_00_00_00_00_00_00_00_00_00_00_00_00_00_00_00 ∷
    0b00_00_11_00_00_00_00_00_01_00_00_00_00_00_00_00 ∷
    0b00_00_11_01_00_00_00_10_01_00_00_00_00_00_00_00 ∷
    0b00_00_00_00_00_00_00_00_00_00_00_00_00_00_00_00 ∷ [])
    -- Depth 4: the centre outside the pane, at (−2,−1)
    ∷ drawn (screen 8 5 4) (pane_row 1 0 6 5 48)
    (def_bitmap the_pane 5 4 4 ∷ def_colors 0x1234 0x0000 ∷ abs_mov (minus 2) (minus 1) ∷ circle 5 ∷ circle 3 ∷ halt ∷ [])
    (blank 5)
    (ended 5 7 32 (neg 2) (neg 1) 0 0)
    (0x0030_1000 ∷
    0x0200_1000 ∷
    0x0004_0000 ∷
    0x0030_0000 ∷
    0x0200_0000 ∷ [])
    -- Pick mode: nothing is drawn; a point in the clip sets the flag
    ∷ drawn (screen 16 7 1) (pane_row 0 0 16 7 48)
    (def_bitmap the_pane 15 6 1 ∷ def_colors 0xFFFF 0x0000 ∷ enter_pick ∷ def_clip_rect 5 3 9 4 ∷ abs_mov 3 3 ∷ circle 3 ∷ halt ∷ [])
    (blank 7)
    (ended 6 0 40 (pos 3) (pos 3) 1 0)
    (blank 7)
    -- Pick mode: a circle about the clip has no point in it
    ∷ drawn (screen 16 7 1) (pane_row 0 0 16 7 48)
    (def_bitmap the_pane 15 6 1 ∷ def_colors 0xFFFF 0x0000 ∷ enter_pick ∷ def_clip_rect 2 2 4 4 ∷ abs_mov 3 3 ∷ circle 3 ∷ halt ∷ [])
    (blank 7)
    (ended 6 0 40 (pos 3) (pos 3) 0 0)
    (blank 7)
    -- By XOR a point drawn twice would vanish, as (2,2) of radius 3, its own reflection in the diagonal; at the right a circle of radius 3 comes and goes
    ∷ drawn (screen 16 7 1) (pane_row 0 0 16 7 64)
    (def_bitmap the_pane 15 6 1 ∷ def_colors 0xFFFF 0x0000 ∷ def_logical_op 0xFFFF 6 ∷ abs_mov 3 3 ∷ circle 3 ∷ abs_mov 10 3 ∷ circle 3 ∷ circle 2
    ∷ circle 3 ∷ halt ∷ [])
    (0b11001100_11001100 ∷
    0b11001100_11001100 ∷
    0b11001100_11001100 ∷
    0b11001100_11001100 ∷
    0b11001100_11001100 ∷
    0b11001100_11001100 ∷
    0b11001100_11001100 ∷ [])
    (ended 9 60 52 (pos 10) (pos 3) 0 0)
    (0b11110100_11001100 ∷
    0b10001000_10111100 ∷
    0b01001110_01000100 ∷
    0b01001110_01000100 ∷
    0b01001110_01000100 ∷
    0b10001000_10111100 ∷
    0b11110100_11001100 ∷ [])
    -- In a store bitmap of depth 2; the screen has another depth. The bitmap's rows end before their words do
    ∷ storing (piece 0x20 (painted 1 (0b00_00_00_00_00_00_00_11 ∷ 0b00_00_00_00_00_00_00_11 ∷ 0b00_00_00_00_00_00_00_11 ∷
    0b00_00_00_00_00_00_00_11 ∷ 0b00_00_00_00_00_00_00_11 ∷ 0b00_00_00_00_00_00_00_11 ∷ 0b00_00_00_00_00_00_00_11 ∷ [])) ∷ [])
    (piece 0x20 (painted 1 (0b00_00_11_01_10_00_00_11 ∷ 0b00_10_00_00_00_11_00_11 ∷ 0b01_00_00_00_00_00_01_11 ∷
    0b01_00_00_00_00_00_01_11 ∷ 0b01_00_00_00_00_00_01_11 ∷ 0b00_10_00_00_00_11_00_11 ∷ 0b00_00_11_01_10_00_00_11 ∷ [])) ∷ [])
    (drawn (screen 4 1 4) (pane_row 0 0 4 1 48)
    (def_bitmap 0x20 6 6 2 ∷ def_colors 0x6DB6 0x0000 ∷ abs_mov 3 3 ∷ circle 3 ∷ halt ∷ [])
    (blank 1)
    (ended 4 16 28 (pos 3) (pos 3) 0 0)
    (blank 1))
    -- Depth 8: in the foreground under any pattern, transparent or opaque
    ∷ drawn (screen 6 5 8) (pane_row 1 0 5 5 64)
    (def_bitmap the_pane 4 4 8 ∷ def_colors 0x12AB 0x7777 ∷ transparent 0x0000 ∷ abs_mov 2 2 ∷ circle 2 ∷ opaque 0x0000 ∷ circle 1
    ∷ transparent 0x7FFF ∷ circle 0 ∷ halt ∷ [])
    (0x55_55_55_55_55_55 ∷
    0x55_55_55_55_55_55 ∷
    0x55_55_55_55_55_55 ∷
    0x55_55_55_55_55_55 ∷
    0x55_55_55_55_55_55 ∷ [])
    (ended 9 17 48 (pos 2) (pos 2) 0 0)
    (0x55_55_12_AB_12_55 ∷
    0x55_AB_55_AB_55_AB ∷
    0x55_AB_12_AB_12_AB ∷
    0x55_AB_55_AB_55_AB ∷
    0x55_55_12_AB_12_55 ∷ [])
    ∷ []

pub circle_pictures : outcomes table ≡ expectations table
unfolding machine outcomes
circle_pictures = refl

-- ## The points

-- (0,2) with its reflections, then (1,2) with its own
pub points_two :
    circles.circle_points 2
    ≡ at (pos 0) (pos 2) ∷ at (pos 0) (neg 2) ∷ at (pos 2) (pos 0) ∷ at (neg 2) (pos 0)
    ∷ at (pos 1) (pos 2) ∷ at (neg 1) (pos 2) ∷ at (pos 1) (neg 2) ∷ at (neg 1) (neg 2)
    ∷ at (pos 2) (pos 1) ∷ at (neg 2) (pos 1) ∷ at (pos 2) (neg 1) ∷ at (neg 2) (neg 1) ∷ []
unfolding machine
points_two = refl

-- how many points radii 0, 1, 2, 3, 4, 5 and 8 have
pub points_counted : map (λ (r : ℕ). length (circles.circle_points r)) (0 ∷ 1 ∷ 2 ∷ 3 ∷ 4 ∷ 5 ∷ 8 ∷ []) ≡ 1 ∷ 4 ∷ 12 ∷ 16 ∷ 24 ∷ 28 ∷ 44 ∷ []
unfolding machine
points_counted = refl

-- ## Whole numbers

-- radius 1 about (32767,−32768): points beyond 16 bits are not wrapped, and the position stays
abbrev far_circle : Drawing
far_circle = circles.circle (masked 0xFFFF) (record { x = 0x7FFF; y = 0x8000 }) 1

pub circle_unwrapped :
    map (λ (d : Dot). d.place) far_circle.dots
    ≡ at (pos 32767) (neg 32767) ∷ at (pos 32767) (neg 32769) ∷ at (pos 32768) (neg 32768) ∷ at (pos 32766) (neg 32768) ∷ []
unfolding machine
circle_unwrapped = refl

pub circle_stays : far_circle.position ≡ record { x = 0x7FFF; y = 0x8000 }
unfolding machine
circle_stays = refl
