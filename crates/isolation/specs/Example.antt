-- An example, worked out by hand: two consoles that differ in their number of rows, the lengths of their
-- buffers and what stands beside pane 0, and two lists with the same calls on it, refused ones among them,
-- and other calls between. The screen is 6 by 2 at four bits a pixel. A row is two words, low byte first:
-- columns 0 to 3 are the digits of the first word, columns 4 and 5 the first two digits of the second, whose
-- other two are no pixel. So a row's byte 0 holds columns 2 and 3, its byte 1 columns 0 and 1.
use Rattle.std.specs.Prelude.{◌≡◌, List, [], ◌∷◌, ◌++◌, ℕ, replicate}
use Rattle.model.specs.declared.Geometry.{Geometry}
use Rattle.model.specs.declared.Row.{Row}
use Rattle.model.specs.Replies.{Response, refused_with, accepted_with, natural, address}
use Rattle.model.specs.Calls.{State, Request, on, put, start, run, look, pixel, peek, clear, judge, switch, set_up}
use Rattle.isolation.specs.TwoRuns.{after, replies_on, TwoRuns, InNoPixels, InNoStore}

-- ## Two consoles

abbrev pub six_by_two : Geometry
six_by_two = record { width = 6; height = 2; depth = 4 }

-- pane 0: columns 1 and 2 of both rows
abbrev pub row : Row
row = record { left = 1; top = 0; width = 2; height = 2; start = 0; len = 48 }

-- pane 1 has columns 3 and 4 of row 0, so that byte 0 holds a pixel of each pane
abbrev pub first : State
first = record {
  console = record {
    geometry = six_by_two;
    count = 2;
    rows = row ∷ record { left = 3; top = 0; width = 2; height = 1; start = 49; len = 32 } ∷ [];
    panes = [];
  };
  screen = replicate 8 0x55;
  stores = replicate 82 7;
}

-- pane 1 has columns 3 to 5 of row 1, pane 2 has column 0 of row 0
abbrev pub second : State
second = record {
  console = record {
    geometry = six_by_two;
    count = 3;
    rows = row ∷ record { left = 3; top = 1; width = 3; height = 1; start = 50; len = 32 }
        ∷ record { left = 0; top = 0; width = 1; height = 1; start = 48; len = 2 } ∷ [];
    panes = [];
  };
  screen = 0x5F ∷ 0x05 ∷ 0xFF ∷ 0xFF ∷ 0x50 ∷ 0x05 ∷ 0x00 ∷ 0x00 ∷ 0x99 ∷ [];
  stores = replicate 48 7 ++ replicate 40 1;
}

-- ## Two lists

-- DEF_BITMAP the pane, DEF_COLORS with a foreground word, REL_MOV (−2,0), LINE (9,0): row 0, from before the
-- pane to past it
abbrev pub line_across : ℕ → ℕ → ℕ → ℕ → List ℕ
line_across xmax ymax low high =
    0 ∷ 0x1A ∷ 0 ∷ 0 ∷ 0x20 ∷ 0 ∷ xmax ∷ 0 ∷ ymax ∷ 0 ∷ 4 ∷ 0
    ∷ 0 ∷ 0x3D ∷ low ∷ high ∷ 0 ∷ 0 ∷ 0 ∷ 0x52 ∷ 0xFE ∷ 0xFF ∷ 0 ∷ 0 ∷ 0 ∷ 0x54 ∷ 9 ∷ 0 ∷ 0 ∷ 0 ∷ []

-- ABS_MOV (0,1), BIT_BLT of (0,0) and (1,0): row 0 onto row 1
abbrev pub copy_down : List ℕ
copy_down = 0 ∷ 0x4F ∷ 0 ∷ 0 ∷ 1 ∷ 0 ∷ 0 ∷ 0x64 ∷ 0 ∷ 0 ∷ 0 ∷ 0 ∷ 1 ∷ 0 ∷ 0 ∷ 0 ∷ []

abbrev pub end : List ℕ
end = 1 ∷ 3 ∷ []

-- 1234 hex gives column c of a word its digit c: pane 0 draws 2 and 3
abbrev pub drawing_list : List ℕ
drawing_list = line_across 1 1 0x34 0x12 ++ (copy_down ++ end)

-- 00: DEF_CHAR_SET 10, byte mode; 06: CHAR of the string at 16, one character; 0E: the end word. The font: 10:
-- code 0 names the descriptor at 10 + 2 × 1; 12: T, 1 by 1; 14: its row, one bit that is 1. 16: the string, code 0
abbrev pub marked_list : List ℕ
marked_list =
    0 ∷ 0x0B ∷ 0x10 ∷ 0 ∷ 0 ∷ 0 ∷ 0 ∷ 0xA6 ∷ 0x16 ∷ 0 ∷ 0 ∷ 0 ∷ 1 ∷ 0 ∷ 1 ∷ 3 ∷ 1 ∷ 0 ∷ 0 ∷ 0x80 ∷ 1 ∷ 0 ∷ 0 ∷ []

abbrev pub first_calls : List Request
first_calls =
    on 0 (put 0 drawing_list) ∷ on 1 (put 0 (line_across 1 0 0xCD 0xAB ++ end)) ∷ on 0 (start 0) ∷ on 1 (start 0)
    ∷ on 1 (run 9) ∷ on 0 (run 4) ∷ on 5 look ∷ on 0 (start 1) ∷ on 0 (pixel 0 0) ∷ on 0 (run 9)
    ∷ on 0 (pixel 1 1) ∷ on 0 (pixel 2 0) ∷ on 1 clear ∷ on 0 (peek 48) ∷ on 0 (run 1) ∷ on 0 look
    ∷ on 0 (judge 0) ∷ on 0 (judge 6) ∷ on 0 (put 0 marked_list) ∷ on 0 (start 0) ∷ on 0 (switch 1) ∷ on 0 (run 9)
    ∷ on 1 (switch 1) ∷ on 0 (switch 2) ∷ on 0 look ∷ on 0 (run 0) ∷ on 0 (run 9) ∷ on 0 look ∷ []

abbrev pub second_calls : List Request
second_calls =
    on 2 (put 0 (0 ∷ 0 ∷ [])) ∷ on 2 (start 0) ∷ on 0 (put 0 drawing_list) ∷ on 2 (run 3) ∷ on 2 (put 1 (4 ∷ 4 ∷ []))
    ∷ on 0 (start 0) ∷ on 0 (run 4) ∷ on 0 (start 1) ∷ on 1 (put 0 (line_across 2 0 0xCD 0xAB ++ end))
    ∷ on 1 (start 0) ∷ on 1 (run 3) ∷ on 0 (pixel 0 0) ∷ on 0 (run 9) ∷ on 1 (run 9) ∷ on 0 (pixel 1 1)
    ∷ on 0 (pixel 2 0) ∷ on 7 clear ∷ on 0 (peek 48) ∷ on 0 (run 1) ∷ on 1 (peek 32) ∷ on 0 look ∷ on 1 (judge 0)
    ∷ on 0 (judge 0) ∷ on 0 (judge 6) ∷ on 0 (put 0 marked_list) ∷ on 0 (start 0) ∷ on 0 (switch 1) ∷ on 0 (run 9)
    ∷ on 0 (switch 2) ∷ on 0 look ∷ on 0 (run 0) ∷ on 1 look ∷ on 0 (run 9) ∷ on 0 look ∷ []

-- ## What comes of it

-- the replies to pane 0's calls
abbrev pub replies : List Response
replies =
    -- put, start, run: four commands, status 1, fault 0, and of LINE's ten pixels two in the pane
    accepted_with [] ∷ accepted_with [] ∷ accepted_with (natural 4 ∷ natural 1 ∷ natural 0 ∷ natural 2 ∷ [])
    -- start at an odd address, pixel, run: two commands, ended, two pixels copied; pixels in and outside the
    -- pane, peek past the end, run at status 2
    ∷ refused_with 3 ∷ accepted_with (natural 2 ∷ [])
    ∷ accepted_with (natural 2 ∷ natural 2 ∷ natural 0 ∷ natural 2 ∷ [])
    ∷ accepted_with (natural 3 ∷ []) ∷ refused_with 5 ∷ refused_with 2 ∷ refused_with 4
    -- look: ended, no fault, pointer 2E hex, position (1,1), no flag
    ∷ accepted_with (natural 2 ∷ natural 0 ∷ address 0x2E ∷ natural 1 ∷ natural 1 ∷ natural 0 ∷ natural 0 ∷ [])
    -- judge: clean, six commands; and where DEF_BITMAP's xmax stands, 0001 hex is an end word
    ∷ accepted_with (natural 0 ∷ natural 6 ∷ []) ∷ accepted_with (natural 0 ∷ natural 0 ∷ [])
    -- put, start, the switch turned on, run: two commands, status 4, one pixel, 3 again at (1,1); no such value of
    -- the switch; look: status 4, pointer 0E hex, the position one to the right, the trap flag
    ∷ accepted_with [] ∷ accepted_with [] ∷ accepted_with []
    ∷ accepted_with (natural 2 ∷ natural 4 ∷ natural 0 ∷ natural 1 ∷ []) ∷ refused_with 33
    ∷ accepted_with (natural 4 ∷ natural 0 ∷ address 0x0E ∷ natural 2 ∷ natural 1 ∷ natural 0 ∷ natural 1 ∷ [])
    -- run with budget 0: status 1; run: ended; look: the trap flag is cleared
    ∷ accepted_with (natural 0 ∷ natural 1 ∷ natural 0 ∷ natural 0 ∷ [])
    ∷ accepted_with (natural 0 ∷ natural 2 ∷ natural 0 ∷ natural 0 ∷ [])
    ∷ accepted_with (natural 2 ∷ natural 0 ∷ address 0x0E ∷ natural 2 ∷ natural 1 ∷ natural 0 ∷ natural 0 ∷ []) ∷ []

pub record Worked : Type 0 where
  pub supposed : TwoRuns six_by_two 0 row first second first_calls second_calls
  pub first_replies : replies_on 0 (set_up first).state first_calls ≡ replies
  pub second_replies : replies_on 0 (set_up second).state second_calls ≡ replies
  -- row 0 is 5 2 3 D, A 5 and row 1 is 5 2 3 5, 5 5: pane 1 drew D and A of ABCD hex
  pub first_screen : (after (set_up first).state first_calls).screen
      ≡ 0x3D ∷ 0x52 ∷ 0x55 ∷ 0xA5 ∷ 0x35 ∷ 0x52 ∷ 0x55 ∷ 0x55 ∷ []
  -- row 0 is 0 2 3 F, F F and row 1 is 0 2 3 D, A B: pane 1 drew D, A and B; pane 2 faulted
  pub second_screen : (after (set_up second).state second_calls).screen
      ≡ 0x3F ∷ 0x02 ∷ 0xFF ∷ 0xFF ∷ 0x3D ∷ 0x02 ∷ 0x00 ∷ 0xAB ∷ 0x99 ∷ []
  -- no pane has the lowest bit of column 0 of row 0, in the byte that holds column 1, nor that of byte 48,
  -- between the two stores
  pub bit_alone : InNoPixels first 12
  pub byte_alone : InNoStore first 384
