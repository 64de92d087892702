-- An example, worked out by hand: a console with one pane, whose store holds a page and a few lists that show what
-- the judge names. The screen is 4 by 1 at four bits a pixel: one word, low byte first, so that byte 0 holds
-- columns 2 and 3 and byte 1 columns 0 and 1. Addresses are hex.
use Rattle.std.specs.Prelude.{◌≡◌, List, [], ◌∷◌, ◌++◌, ℕ, length}
use Rattle.model.specs.Replies.{Response, refused_with, accepted_with, natural, address}
use Rattle.model.specs.Calls.{State, Request, on, start, run, look, clear, judge, switch, exec, set_up}
use Rattle.isolation.specs.TwoRuns.{after, replies_on}

-- ## The store

-- commands of two bytes, and CALL of six
abbrev pub nop_bytes : List ℕ
nop_bytes = 0 ∷ 0x03 ∷ []

abbrev pub return_bytes : List ℕ
return_bytes = 0 ∷ 0x17 ∷ []

abbrev pub end_bytes : List ℕ
end_bytes = 1 ∷ 0x03 ∷ []

abbrev pub call_bytes : ℕ → List ℕ
call_bytes a = 0 ∷ 0x0F ∷ a ∷ 0 ∷ 0 ∷ 0 ∷ []

-- 00: CALL 0E, 06: CALL 22, 0C: the end word
abbrev pub page_list : List ℕ
page_list = call_bytes 0x0E ++ (call_bytes 0x22 ++ end_bytes)

-- 0E: DEF_BITMAP the pane, xmax 3, ymax 0, 4 bits; 1A: DEF_COLORS, foreground 1234; 20: RETURN
abbrev pub colour_list : List ℕ
colour_list = 0 ∷ 0x1A ∷ 0 ∷ 0 ∷ 0x20 ∷ 0 ∷ 3 ∷ 0 ∷ 0 ∷ 0 ∷ 4 ∷ 0 ∷ 0 ∷ 0x3D ∷ 0x34 ∷ 0x12 ∷ 0 ∷ 0 ∷ return_bytes

-- two calls and RETURN: 14 bytes
abbrev pub twice_list : ℕ → List ℕ
twice_list a = call_bytes a ++ (call_bytes a ++ return_bytes)

-- 22: CALL 30, 28: CALL 30, 2E: RETURN; 30: POINT (1,0), 36: RETURN
abbrev pub pair_list : List ℕ
pair_list = twice_list 0x30 ++ (0 ∷ 0x53 ∷ 1 ∷ 0 ∷ 0 ∷ 0 ∷ return_bytes)

-- 38: NOP, 3A: LINK 00
abbrev pub link_list : List ℕ
link_list = nop_bytes ++ (0 ∷ 0x02 ∷ 0 ∷ 0 ∷ 0 ∷ 0 ∷ [])

-- 40: DEF_BITMAP at 41, xmax 3, ymax 0, 4 bits: the address is odd, its own fault is 22
abbrev pub bitmap_list : List ℕ
bitmap_list = 0 ∷ 0x1A ∷ 0x41 ∷ 0 ∷ 0 ∷ 0 ∷ 3 ∷ 0 ∷ 0 ∷ 0 ∷ 4 ∷ 0 ∷ []

-- 4C: NOP, 4E: CALL 64, 54: CALL 64, 5A, 5C, 5E and 60: NOP, 62: the end word
abbrev pub long_list : List ℕ
long_list =
    nop_bytes
    ++ (call_bytes 0x64 ++ (call_bytes 0x64 ++ (nop_bytes ++ (nop_bytes ++ (nop_bytes ++ (nop_bytes ++ end_bytes))))))

-- what it calls: seven lists at 64, 72, 80, 8E, 9C, AA and B8, each of which calls the next one twice, the last
-- of them C6
abbrev pub level_lists : List ℕ
level_lists =
    twice_list 0x72
    ++ (twice_list 0x80
    ++ (twice_list 0x8E ++ (twice_list 0x9C ++ (twice_list 0xAA ++ (twice_list 0xB8 ++ twice_list 0xC6)))))

-- C6, C8, .. , DC: four times three NOPs, DE: RETURN
abbrev pub three_nops : List ℕ
three_nops = nop_bytes ++ (nop_bytes ++ nop_bytes)

abbrev pub last_list : List ℕ
last_list = three_nops ++ (three_nops ++ (three_nops ++ (three_nops ++ return_bytes)))

-- E0: LINK, with no word left in the store for its address
abbrev pub cut_list : List ℕ
cut_list = 0 ∷ 0x02 ∷ []

abbrev pub all_lists : List ℕ
all_lists =
    page_list
    ++ (colour_list
    ++ (pair_list
    ++ (link_list ++ (bitmap_list ++ (long_list ++ (level_lists ++ (last_list ++ cut_list)))))))

abbrev pub one_pane : State
one_pane = record {
  console = record {
    geometry = record { width = 4; height = 1; depth = 4 };
    count = 1;
    rows = record { left = 0; top = 0; width = 4; height = 1; start = 0; len = 0xE2 } ∷ [];
    panes = [];
  };
  screen = 0x55 ∷ 0x55 ∷ [];
  stores = all_lists;
}

-- ## What the judge names

abbrev pub judge_calls : List Request
judge_calls =
    on 0 (judge 0) ∷ on 0 (judge 0x22) ∷ on 0 (judge 0x38) ∷ on 0 (judge 0x40) ∷ on 0 (judge 0xE0)
    ∷ on 0 (judge 0x4E) ∷ on 0 (judge 0x4C) ∷ on 0 (judge 1) ∷ on 0 (judge 0xE2) ∷ []

-- clean, with the commands walked
abbrev pub clean_reply : ℕ → Response
clean_reply n = accepted_with (natural 0 ∷ natural n ∷ [])

-- a number, with its address
abbrev pub found_reply : ℕ → ℕ → Response
found_reply f a = accepted_with (natural f ∷ address a ∷ [])

abbrev pub judge_replies : List Response
judge_replies =
    -- the page: CALL, three commands, CALL, and of the pair CALL, two commands, CALL, two commands, RETURN
    clean_reply 12
    -- the pair alone: after CALL, POINT without a bitmap
    ∷ found_reply 23 0x30
    -- NOP, then LINK; DEF_BITMAP in the store, ahead of its 22; LINK cut off by the store's end, behind its 21
    ∷ found_reply 31 0x3A ∷ found_reply 31 0x40 ∷ found_reply 21 0xE0
    -- C6 has 13 commands, B8 twice one more and RETURN: 29, AA 61, 9C 125, 8E 253, 80 509, 72 1,021, 64 2,045.
    -- From 4E two calls of 64, 2 × 2,046 = 4,092 commands, four NOPs, and the end word after 4,096 commands
    ∷ clean_reply 4096
    -- from 4C one more, so that the last NOP comes after 4,096
    ∷ found_reply 32 0x60
    -- an odd address, and the store's length
    ∷ refused_with 3 ∷ refused_with 2 ∷ []

-- ## What runs then do

-- the page, with the judge and the switch between
abbrev pub page_calls : List Request
page_calls =
    on 0 clear ∷ on 0 (start 0) ∷ on 0 (run 5) ∷ on 0 (judge 0x38) ∷ on 0 (switch 0) ∷ on 0 (switch 2) ∷ on 0 (run 7)
    ∷ on 0 (run 1) ∷ on 0 (run 1) ∷ on 0 look ∷ []

-- the pair
abbrev pub pair_calls : List Request
pair_calls =
    on 0 clear ∷ on 0 (start 0x22) ∷ on 0 (run 1) ∷ on 0 (judge 0) ∷ on 0 (run 1) ∷ on 0 (run 1) ∷ on 0 look ∷ []

-- commands done, status, fault, pixels drawn
abbrev pub ran_reply : ℕ → ℕ → ℕ → ℕ → Response
ran_reply n status fault pixels = accepted_with (natural n ∷ natural status ∷ natural fault ∷ natural pixels ∷ [])

-- status, fault, pointer, and the position (x,0); no flag
abbrev pub look_reply : ℕ → ℕ → ℕ → ℕ → Response
look_reply status fault pointer x =
    accepted_with (natural status ∷ natural fault ∷ address pointer ∷ natural x ∷ natural 0 ∷ natural 0 ∷ natural 0
    ∷ [])

abbrev pub page_replies : List Response
page_replies =
    -- the switch is left off, and 2 refused; budgets that add to 12 leave the page running, its two POINTs drawn by
    -- the second run; one more ends it, and then no run is accepted
    accepted_with [] ∷ accepted_with [] ∷ ran_reply 5 1 0 0 ∷ found_reply 31 0x3A ∷ accepted_with [] ∷ refused_with 33
    ∷ ran_reply 7 1 0 2 ∷ ran_reply 0 2 0 0 ∷ refused_with 4 ∷ look_reply 2 0 0x0C 2 ∷ []

abbrev pub pair_replies : List Response
pair_replies =
    -- one command, and then the fault that the judge named, where it named it
    accepted_with [] ∷ accepted_with [] ∷ ran_reply 1 1 0 0 ∷ clean_reply 12 ∷ ran_reply 0 3 23 0 ∷ refused_with 4
    ∷ look_reply 3 23 0x30 0 ∷ []

-- the page amid its run: cleared, started, five commands done
abbrev pub amid : State
amid = after (set_up one_pane).state (on 0 clear ∷ on 0 (start 0) ∷ on 0 (run 5) ∷ [])

pub record Worked : Type 0 where
  pub size : length all_lists ≡ 0xE2
  pub judged : replies_on 0 (set_up one_pane).state judge_calls ≡ judge_replies
  pub page : replies_on 0 (set_up one_pane).state page_calls ≡ page_replies
  -- 1234 gives column 1 its digit 2 and column 2 its digit 3
  pub screen : (after (set_up one_pane).state page_calls).screen ≡ 0x35 ∷ 0x52 ∷ []
  pub pair : replies_on 0 (set_up one_pane).state pair_calls ≡ pair_replies
  -- the judge leaves a running pane as it was
  pub kept : (exec amid (on 0 (judge 0))).state ≡ amid
