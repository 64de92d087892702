-- The judge (02, A.2): lists and what it finds in them, worked out by hand from the sentences of the paper.
use mathlib.Core.Path.{◌≡◌, refl}
use mathlib.Core.List.{List, [], ◌∷◌}
use Prim.Native.Nat.{ℕ}
use lib.ListN.{length}
use Rattle.model.specs.Bitmaps.{Geometry, Row}
use Rattle.model.specs.Record.{fresh}
use Rattle.model.specs.Judge.{Verdict, Clean, Found, list_walk, verdict_of}
use Rattle.model.specs.Calls.{started}
use Rattle.model.proofs.Computing.{machine}
use Rattle.model.proofs.Listings.{minus, the_pane, nop, halt, link, call, return, def_bitmap, def_clip_rect, word_font, point, circle, char, listing}

-- a list from the store's first byte on, and what the judge finds in it
pub record Case : Type 0 where
  pub list : List (List ℕ)
  pub verdict : Verdict

abbrev geometry : Geometry
geometry = record { width = 16; height = 2; depth = 1 }

-- a pane that is the whole screen, and a store that the list fills
abbrev row : ℕ → Row
row n = record { left = 0; top = 0; width = 16; height = 2; start = 0; len = n }

abbrev judged : List ℕ → Verdict
judged store = verdict_of geometry (row (length store)) store (started fresh 0)

abbrev pub results : List Case → List Verdict
results [] = []
results (c ∷ cs) = judged (listing c.list) ∷ results cs

abbrev pub due : List Case → List Verdict
due [] = []
due (c ∷ cs) = c.verdict ∷ due cs

abbrev clean : ℕ → List (List ℕ) → Case
clean n list = record { list = list; verdict = Clean n }

abbrev found : ℕ → ℕ → List (List ℕ) → Case
found f a list = record { list = list; verdict = Found f a }

-- the whole pane
abbrev on_pane : List ℕ
on_pane = def_bitmap the_pane 15 1 1

-- an opcode that 003 has not
abbrev unknown : List ℕ
unknown = 0xFF00 ∷ []

abbrev pub table : List Case
table =
    -- ## Clean
    clean 0 (halt ∷ [])
    ∷ clean 2 (nop ∷ nop ∷ halt ∷ [])
    -- CALL 8 and the end word at 6; a NOP and RETURN at 8
    ∷ clean 3 (call 8 ∷ halt ∷ nop ∷ return ∷ [])
    -- a list called twice, which calls another: two CALLs and the end word at C; at E a CALL and RETURN, at 16 NOP and RETURN
    ∷ clean 10 (call 0xE ∷ call 0xE ∷ halt ∷ call 0x16 ∷ return ∷ nop ∷ return ∷ [])
    -- an end word in a called list
    ∷ clean 1 (call 6 ∷ halt ∷ [])
    -- a bitmap and a clip set in a called list are there after it
    ∷ clean 4 (call 0xE ∷ point 0 0 ∷ halt ∷ on_pane ∷ return ∷ [])
    -- ## Faults that a run would meet, with their addresses
    ∷ found 20 2 (nop ∷ unknown ∷ halt ∷ [])
    ∷ found 21 2 (nop ∷ [])
    ∷ found 21 7 (nop ∷ call 7 ∷ halt ∷ [])
    ∷ found 22 0 (def_bitmap the_pane 16 1 1 ∷ halt ∷ [])
    ∷ found 23 2 (nop ∷ point 0 0 ∷ halt ∷ [])
    ∷ found 24 0xC (on_pane ∷ def_clip_rect 0 0 16 1 ∷ halt ∷ [])
    ∷ found 25 0 (word_font 7 ∷ halt ∷ [])
    ∷ found 28 0xC (on_pane ∷ char 0 0 ∷ halt ∷ [])
    ∷ found 30 0xC (on_pane ∷ circle (minus 1) ∷ halt ∷ [])
    -- RETURN with none kept, first thing and after a called list
    ∷ found 27 0 (return ∷ [])
    ∷ found 27 6 (call 8 ∷ return ∷ return ∷ [])
    -- inside a called list
    ∷ found 23 8 (call 8 ∷ halt ∷ point 0 0 ∷ return ∷ [])
    -- a list that calls itself: the ninth CALL
    ∷ found 26 0 (call 0 ∷ halt ∷ [])
    -- eight deep, and nine
    ∷ clean 16 (call 8 ∷ halt ∷ call 0x10 ∷ return ∷ call 0x18 ∷ return ∷ call 0x20 ∷ return ∷ call 0x28 ∷ return ∷ call 0x30 ∷ return ∷ call 0x38 ∷ return
    ∷ call 0x40 ∷ return ∷ return ∷ [])
    ∷ found 26 0x40 (call 8 ∷ halt ∷ call 0x10 ∷ return ∷ call 0x18 ∷ return ∷ call 0x20 ∷ return ∷ call 0x28 ∷ return ∷ call 0x30 ∷ return ∷ call 0x38
    ∷ return ∷ call 0x40 ∷ return ∷ call 0x48 ∷ return ∷ return ∷ [])
    -- ## 31, ahead of the command's own faults: the rule is broken in the second DEF_BITMAP
    ∷ found 31 2 (nop ∷ link 0 ∷ halt ∷ [])
    ∷ found 31 0 (def_bitmap 0 15 0 1 ∷ halt ∷ [])
    ∷ found 31 0 (def_bitmap 1 15 1 3 ∷ halt ∷ [])
    -- .. and 21 ahead of it: the last parameter word is not in the store
    ∷ found 21 0 ((0x0200 ∷ 0 ∷ []) ∷ [])
    ∷ found 21 0 ((0x1A00 ∷ 0 ∷ 0 ∷ 15 ∷ 0 ∷ []) ∷ [])
    -- the first that is met
    ∷ found 31 0 (link 0 ∷ point 0 0 ∷ halt ∷ [])
    ∷ found 23 0 (point 0 0 ∷ link 0 ∷ halt ∷ [])
    ∷ []

pub judge_cases : results table ≡ due table
unfolding machine
judge_cases = refl

-- ## The last command

-- where two commands are left to walk. That 4,096 are walked in all stands in the example of `verdicts`
abbrev walked : List (List ℕ) → Verdict
walked list = list_walk geometry (row (length (listing list))) (listing list) 2 (started fresh 0)

-- "anything but an end word after 4,096 commands gets 32, ahead of its own faults and of 31": LINK, and the end of the store. A fault of the last
-- command that is walked is that fault
pub walked_last : walked (nop ∷ nop ∷ halt ∷ []) ∷ walked (nop ∷ nop ∷ link 0 ∷ []) ∷ walked (nop ∷ nop ∷ []) ∷ walked (nop ∷ point 0 0 ∷ []) ∷ []
    ≡ Clean 0 ∷ Found 32 4 ∷ Found 32 4 ∷ Found 23 2 ∷ []
unfolding machine
walked_last = refl
