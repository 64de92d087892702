-- The faults of drawing commands after 23, and their order (01, "Faults, in the order written within a command"), in rows as those of FaultCases.
use mathlib.Core.Path.{◌≡◌, refl}
use mathlib.Core.List.{List, [], ◌∷◌}
use Prim.Native.Nat.{ℕ}
use Rattle.model.proofs.Computing.{machine}
use Rattle.model.proofs.Listings.{minus, the_pane, def_bitmap, word_font, byte_font, polyline, scan_lines, circle, bit_blt, bit_blt_m, char, bytes}
use Rattle.model.proofs.Scripts.{Piece, piece}
use Rattle.model.proofs.FaultCases.{Case, draws, faults, on_pane, on_store, results, dues}

-- ## What stands in the store and is active in the rows below

-- a font at 40 hex, of words and of bytes, for the pane and for the bitmap at 60 hex
abbrev words_on_pane : List (List ℕ)
words_on_pane = def_bitmap the_pane 15 1 1 ∷ word_font 0x40 ∷ []

abbrev bytes_on_pane : List (List ℕ)
bytes_on_pane = def_bitmap the_pane 15 1 1 ∷ byte_font 0x40 ∷ []

abbrev words_on_store : List (List ℕ)
words_on_store = def_bitmap 0x60 15 3 1 ∷ word_font 0x40 ∷ []

abbrev bytes_on_store : List (List ℕ)
bytes_on_store = def_bitmap 0x60 15 3 1 ∷ byte_font 0x40 ∷ []

-- the descriptor at 40 hex: a cell of 3 by 1
abbrev cell_at40 : Piece
cell_at40 = piece 0x40 (bytes (0x0002 ∷ 0x0007 ∷ []))

abbrev cell : List Piece
cell = cell_at40 ∷ []

-- offset words: code 0 names the descriptor at 44 hex, codes 1 to 3 the word 0002 hex at 40 hex as theirs
abbrev offsets_at40 : Piece
offsets_at40 = piece 0x40 (bytes (0x0002 ∷ 0x0000 ∷ 0x0000 ∷ 0x0000 ∷ []))

abbrev offsets : List Piece
offsets = offsets_at40 ∷ []

abbrev pub table : List Case
table =
    -- ## 25: the arrays of POLYLINE and SCAN_LINES
    -- an odd address, also of an empty array
    faults 25 on_pane [] (polyline 0x61 1)
    ∷ faults 25 on_pane [] (polyline 0x61 0)
    ∷ faults 25 on_pane [] (scan_lines 0x61 0)
    -- past the store by a word
    ∷ faults 25 on_pane [] (polyline 0x7A 2)
    ∷ faults 25 on_pane [] (scan_lines 0x7C 1)
    -- just inside
    ∷ draws 1 on_pane [] (polyline 0x78 2)
    ∷ draws 1 on_pane [] (scan_lines 0x7A 1)
    -- far outside, but empty
    ∷ draws 0 on_pane [] (polyline 0x3FFFFE 0)
    -- touching the active bitmap, bytes 60 to 67 hex: from before, from behind, within
    ∷ faults 25 on_store [] (polyline 0x5E 1)
    ∷ faults 25 on_store [] (scan_lines 0x66 1)
    ∷ faults 25 on_store [] (polyline 0x62 1)
    -- beside it
    ∷ draws 1 on_store [] (polyline 0x5C 1)
    ∷ draws 1 on_store [] (scan_lines 0x68 1)
    -- within it, but empty
    ∷ draws 0 on_store [] (scan_lines 0x62 0)
    -- the pane is touched by nothing
    ∷ draws 1 on_pane [] (polyline 0x60 1)
    -- ## 28 and 25: CHAR
    -- no font, before the string, also if it is empty
    ∷ faults 28 on_pane [] (char 0x61 1)
    ∷ faults 28 on_pane [] (char 0x60 0)
    -- a string of words at an odd address, also if it is empty
    ∷ faults 25 words_on_pane cell (char 0x61 1)
    ∷ faults 25 words_on_pane [] (char 0x61 0)
    -- past the store
    ∷ faults 25 words_on_pane cell (char 0x7E 2)
    -- just inside
    ∷ draws 6 words_on_pane cell (char 0x7C 2)
    -- far outside, but empty
    ∷ draws 0 words_on_pane [] (char 0x3FFFFE 0)
    -- touching the active bitmap
    ∷ faults 25 words_on_store cell (char 0x5E 2)
    ∷ faults 25 words_on_store cell (char 0x66 1)
    -- beside it
    ∷ draws 6 words_on_store cell (char 0x5C 2)
    ∷ draws 3 words_on_store cell (char 0x68 1)
    -- within it, but empty
    ∷ draws 0 words_on_store [] (char 0x62 0)
    -- a string of bytes may be odd; just inside the store
    ∷ draws 3 bytes_on_pane offsets (char 0x7D 3)
    -- past the store by a byte
    ∷ faults 25 bytes_on_pane offsets (char 0x7D 4)
    -- an empty one may be anywhere
    ∷ draws 0 bytes_on_pane [] (char 0x3FFFFF 0)
    ∷ draws 0 bytes_on_store [] (char 0x61 0)
    -- touching the active bitmap by a byte, and beside it
    ∷ faults 25 bytes_on_store offsets (char 0x5E 3)
    ∷ faults 25 bytes_on_store offsets (char 0x67 1)
    ∷ draws 2 bytes_on_store offsets (char 0x5E 2)
    ∷ draws 1 bytes_on_store offsets (char 0x69 1)
    -- ## CHAR's offset words
    -- past the store: code 32 names the word at 80 hex; code 31 the last one
    ∷ faults 25 bytes_on_pane (offsets_at40 ∷ piece 0x50 (32 ∷ []) ∷ []) (char 0x50 1)
    ∷ draws 3 bytes_on_pane (offsets_at40 ∷ piece 0x50 (31 ∷ []) ∷ []) (char 0x50 1)
    -- touching the active bitmap: code 16 names the word at 60 hex, 19 that at 66 hex
    ∷ faults 25 bytes_on_store (offsets_at40 ∷ piece 0x50 (16 ∷ []) ∷ []) (char 0x50 1)
    ∷ faults 25 bytes_on_store (offsets_at40 ∷ piece 0x50 (19 ∷ []) ∷ []) (char 0x50 1)
    ∷ draws 3 bytes_on_store (offsets_at40 ∷ piece 0x50 (20 ∷ []) ∷ []) (char 0x50 1)
    -- the second character, the first being good
    ∷ faults 25 bytes_on_pane (offsets_at40 ∷ piece 0x50 (1 ∷ 32 ∷ []) ∷ []) (char 0x50 2)
    -- ## CHAR's descriptors, one word and one more a row
    -- the first word past the store
    ∷ faults 25 words_on_pane (piece 0x50 (bytes (0x0020 ∷ [])) ∷ []) (char 0x50 1)
    -- the last row past the store
    ∷ faults 25 words_on_pane (piece 0x50 (bytes (0x001C ∷ [])) ∷ piece 0x78 (bytes (0x0300 ∷ [])) ∷ []) (char 0x50 1)
    -- just inside
    ∷ draws 2 words_on_pane (piece 0x50 (bytes (0x001C ∷ [])) ∷ piece 0x78 (bytes (0x0200 ∷ [])) ∷ []) (char 0x50 1)
    -- touching the active bitmap by the first word, by the last row, and beside it
    ∷ faults 25 words_on_store (piece 0x50 (bytes (0x0013 ∷ [])) ∷ []) (char 0x50 1)
    ∷ faults 25 words_on_store (piece 0x50 (bytes (0x000C ∷ [])) ∷ piece 0x58 (bytes (0x0300 ∷ [])) ∷ []) (char 0x50 1)
    ∷ draws 3 words_on_store (piece 0x50 (bytes (0x000C ∷ [])) ∷ piece 0x58 (bytes (0x0200 ∷ [])) ∷ []) (char 0x50 1)
    ∷ draws 1 words_on_store (piece 0x50 (bytes (0x0014 ∷ [])) ∷ []) (char 0x50 1)
    -- the second character, the first being good: nothing of the first is drawn
    ∷ faults 25 words_on_pane (cell_at40 ∷ piece 0x50 (bytes (0x0000 ∷ 0x0020 ∷ [])) ∷ []) (char 0x50 2)
    -- by way of an offset word
    ∷ faults 25 bytes_on_pane (piece 0x40 (bytes (0x0020 ∷ [])) ∷ []) (char 0x50 1)
    -- base and selector of more than 22 bits
    ∷ faults 25 (def_bitmap the_pane 15 1 1 ∷ word_font 0x3FFFFE ∷ []) (piece 0x50 (bytes (0x0021 ∷ [])) ∷ []) (char 0x50 1)
    -- ## 29: BIT_BLT
    -- dx or dy negative
    ∷ faults 29 on_pane [] (bit_blt 4 1 (minus 1) 0)
    ∷ faults 29 on_pane [] (bit_blt 4 1 0 (minus 1))
    -- the source outside the bitmap
    ∷ faults 29 on_pane [] (bit_blt (minus 1) 0 1 0)
    ∷ faults 29 on_pane [] (bit_blt 0 (minus 1) 0 1)
    ∷ faults 29 on_pane [] (bit_blt 10 0 6 0)
    ∷ faults 29 on_pane [] (bit_blt 0 1 0 1)
    -- all of the bitmap
    ∷ draws 32 on_pane [] (bit_blt 0 0 15 1)
    -- ## 22 and 29: BIT_BLT_M
    -- the source's bitmap against DEF_BITMAP's rule at the active depth, before the rectangle
    ∷ faults 22 on_pane [] (bit_blt_m 0x61 15 1 0 0 (minus 1) 0)
    ∷ faults 22 on_pane [] (bit_blt_m 0x7A 15 3 0 0 (minus 1) 0)
    ∷ draws 1 on_pane [] (bit_blt_m 0x78 15 3 0 0 0 0)
    ∷ faults 22 (def_bitmap 0x60 15 0 2 ∷ []) [] (bit_blt_m 0x7E 15 0 0 0 0 0)
    -- the pane named with another size than its own, or at another depth
    ∷ faults 22 on_store [] (bit_blt_m the_pane 14 1 0 0 0 0)
    ∷ faults 22 (def_bitmap 0x60 7 3 2 ∷ []) [] (bit_blt_m the_pane 15 1 0 0 0 0)
    -- dx or dy negative
    ∷ faults 29 on_pane [] (bit_blt_m 0x70 15 1 4 1 (minus 1) 0)
    ∷ faults 29 on_pane [] (bit_blt_m 0x70 15 1 4 1 0 (minus 1))
    -- the rectangle outside its bitmap
    ∷ faults 29 on_pane [] (bit_blt_m 0x70 15 1 (minus 1) 0 1 0)
    ∷ faults 29 on_pane [] (bit_blt_m 0x70 15 1 0 (minus 1) 0 1)
    ∷ faults 29 on_pane [] (bit_blt_m 0x70 9 1 4 0 6 0)
    ∷ faults 29 on_pane [] (bit_blt_m 0x70 15 1 0 1 0 1)
    -- from the pane to itself
    ∷ faults 29 on_pane [] (bit_blt_m the_pane 15 1 0 0 0 0)
    -- from the pane to the store, and from the store to the pane
    ∷ draws 32 on_store [] (bit_blt_m the_pane 15 1 0 0 15 1)
    ∷ draws 32 on_pane [] (bit_blt_m 0x60 15 1 0 0 15 1)
    -- sharing a byte with the active bitmap, bytes 60 to 67 hex: rows of one word from 5C hex, the first two free
    ∷ draws 2 on_store [] (bit_blt_m 0x5C 15 7 0 0 0 1)
    ∷ faults 29 on_store [] (bit_blt_m 0x5C 15 7 0 0 0 2)
    ∷ faults 29 on_store [] (bit_blt_m 0x5C 15 7 0 5 0 0)
    ∷ draws 2 on_store [] (bit_blt_m 0x5C 15 7 0 6 0 1)
    -- a row of three words from 5C hex: the first two free
    ∷ draws 16 on_store [] (bit_blt_m 0x5C 47 0 14 0 17 0)
    ∷ faults 29 on_store [] (bit_blt_m 0x5C 47 0 14 0 18 0)
    -- a row of four words from 62 hex: the last free
    ∷ draws 16 on_store [] (bit_blt_m 0x62 63 0 48 0 15 0)
    ∷ faults 29 on_store [] (bit_blt_m 0x62 63 0 47 0 15 0)
    -- the bitmap itself
    ∷ faults 29 on_store [] (bit_blt_m 0x60 15 3 0 0 0 0)
    -- ## 30: CIRCLE (02, A.1)
    -- a negative radius: the nearest to 0 and the farthest
    ∷ faults 30 on_pane [] (circle (minus 1))
    ∷ faults 30 on_pane [] (circle (minus 32768))
    ∷ faults 30 on_store [] (circle (minus 3))
    -- the least that is none, and one whose circle lies mostly outside
    ∷ draws 1 on_pane [] (circle 0)
    ∷ draws 4 on_store [] (circle 6)
    ∷ []

pub draw_fault_cases : results table ≡ dues table
unfolding machine results dues
draw_fault_cases = refl
