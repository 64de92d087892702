-- The faults of "One command", DEF_BITMAP, DEF_CLIP_RECT, DEF_CHAR_SET, CALL and RETURN, and their order within a command (01, "Faults, in the
-- order written within a command"): each row is a list and what its last command comes to, as the sentences of the paper have it. A fault changes
-- status and fault number, and nothing else.
use mathlib.Core.Path.{◌≡◌, refl}
use mathlib.Core.List.{List, [], ◌∷◌, ◌++◌}
use Prim.Native.Nat.{ℕ}
use lib.IntN.{ℤ, pos}
use lib.ListN.{length, replicate, set}
use Rattle.model.specs.Record.{Pane}
use Rattle.model.specs.Setup.{pane_at}
use Rattle.model.specs.Calls.{State, Answer, on, start, run, exec}
use Rattle.model.proofs.Computing.{machine}
use Rattle.model.proofs.Listings.{minus, the_pane, link, call, return, def_bitmap, def_clip_rect, word_font, byte_font, point, line, rect, polyline, scan_lines}
use Rattle.model.proofs.Listings.{circle, bit_blt, bit_blt_m, char, bytes, listing}
use Rattle.model.proofs.Scripts.{Piece, piece, laid, script, values}

-- what a command comes to
pub data Fate : Type 0 where
  -- it is done and counted, and draws so many pixels
  done : ℕ → Fate
  -- it is an end word
  end : Fate
  fault : ℕ → Fate

-- commands that are done one after the other, from the store's first byte on; other pieces of the store; the command behind them; what the next
-- command comes to
pub record Case : Type 0 where
  pub before : List (List ℕ)
  pub pieces : List Piece
  pub command : List ℕ
  pub fate : Fate

abbrev pub draws : ℕ → List (List ℕ) → List Piece → List ℕ → Case
draws n before pieces command = record { before = before; pieces = pieces; command = command; fate = done n }

-- a command that draws nothing
abbrev passes : List (List ℕ) → List Piece → List ℕ → Case
passes = draws 0

abbrev pub ends : List (List ℕ) → List Piece → List ℕ → Case
ends before pieces command = record { before = before; pieces = pieces; command = command; fate = end }

abbrev pub faults : ℕ → List (List ℕ) → List Piece → List ℕ → Case
faults n before pieces command = record { before = before; pieces = pieces; command = command; fate = fault n }

-- a screen of 16 by 2 pixels of depth 1, all of it the pane, and a store of 80 hex bytes
abbrev lent : Case → State
lent c =
    record {
      console = record {
        geometry = record { width = 16; height = 2; depth = 1 };
        count = 1;
        rows = record { left = 0; top = 0; width = 16; height = 2; start = 0; len = 0x80 } ∷ [];
        panes = [];
      };
      screen = replicate 4 0;
      stores = laid (piece 0 (listing c.before ++ bytes c.command) ∷ c.pieces) (replicate 0x80 0);
    }

-- the state before the command in question
unfoldable pub reached : Case → State
unfolding script
reached c = (script (lent c) (on 0 (start 0) ∷ on 0 (run (length c.before)) ∷ [])).left

-- a record, and a state, with this status and fault and all else kept
abbrev marked : ℕ → ℕ → Pane → Pane
marked status n p =
    record {
      progress = record { status = status; fault = n; pointer = p.progress.pointer };
      position = p.position;
      bitmap = p.bitmap;
      clip = p.clip;
      scissor = p.scissor;
      pen = p.pen;
      text = p.text;
      flags = p.flags;
      returns = p.returns;
    }

abbrev stopped : ℕ → ℕ → State → State
stopped status n s =
    record {
      console = record {
        geometry = s.console.geometry;
        count = s.console.count;
        rows = s.console.rows;
        panes = set s.console.panes 0 (marked status n (pane_at s.console.panes 0));
      };
      screen = s.screen;
      stores = s.stores;
    }

-- what came of a row: run's values, which are commands, status, fault and pixels drawn, and the state where the run stopped
pub record Result : Type 0 where
  pub values : List ℤ
  pub left : List State

abbrev came : Fate → Answer → Result
came (done n) a = record { values = values a.reply; left = [] }
came end a = record { values = values a.reply; left = a.state ∷ [] }
came (fault n) a = record { values = values a.reply; left = a.state ∷ [] }

abbrev due : Fate → State → Result
due (done n) s = record { values = pos 0 ∷ pos 1 ∷ pos 1 ∷ pos 0 ∷ pos n ∷ []; left = [] }
due end s = record { values = pos 0 ∷ pos 0 ∷ pos 2 ∷ pos 0 ∷ pos 0 ∷ []; left = stopped 2 0 s ∷ [] }
due (fault n) s = record { values = pos 0 ∷ pos 0 ∷ pos 3 ∷ pos n ∷ pos 0 ∷ []; left = stopped 3 n s ∷ [] }

unfoldable pub results : List Case → List Result
unfolding reached
results [] = []
results (c ∷ cs) = came c.fate (exec (reached c) (on 0 (run 1))) ∷ results cs

unfoldable pub dues : List Case → List Result
unfolding reached
dues [] = []
dues (c ∷ cs) = due c.fate (reached c) ∷ dues cs

-- ## What the active bitmap is in the rows below

abbrev pub on_pane : List (List ℕ)
on_pane = def_bitmap the_pane 15 1 1 ∷ []

-- bytes 60 to 67 hex of the store: four rows of one word
abbrev pub on_store : List (List ℕ)
on_store = def_bitmap 0x60 15 3 1 ∷ []

abbrev pub table : List Case
table =
    -- ## 20 and 21: at the fetch
    -- an opcode that 003 gives and that is not built (INCR_POINT), and one that it does not give
    faults 20 [] [] (0xB400 ∷ 0x0060 ∷ 0x0000 ∷ 0x0000 ∷ [])
    ∷ faults 20 [] [] (0xFF00 ∷ [])
    -- a pointer that is odd, though the word there has bit 0 set
    ∷ faults 21 (link 0x71 ∷ []) (piece 0x70 (bytes (0x0101 ∷ 0x0101 ∷ [])) ∷ []) []
    -- a pointer whose word is outside the store
    ∷ faults 21 (link 0x80 ∷ []) [] []
    -- the last word of the store
    ∷ passes (link 0x7E ∷ []) (piece 0x7E (bytes (0x0300 ∷ [])) ∷ []) []
    -- a pointer far outside; LINK there was done and counted, and so is a CALL
    ∷ faults 21 (link 0x3FFFFE ∷ []) [] []
    ∷ faults 21 (call 0x200000 ∷ []) [] []
    -- bit 0 before the opcode
    ∷ ends [] [] (0xFF01 ∷ [])
    -- the opcode before the parameter words: an unknown one at the end of the store
    ∷ faults 20 (link 0x7E ∷ []) (piece 0x7E (bytes (0x5600 ∷ [])) ∷ []) []
    -- parameter words outside the store, by one word
    ∷ faults 21 (link 0x7C ∷ []) (piece 0x7C (bytes (0x4F00 ∷ 0x0001 ∷ [])) ∷ []) []
    -- just inside
    ∷ passes (link 0x7A ∷ []) (piece 0x7A (bytes (0x4F00 ∷ 0x0001 ∷ 0x0001 ∷ [])) ∷ []) []
    -- before the command's own faults: a POINT without a bitmap
    ∷ faults 21 (link 0x7C ∷ []) (piece 0x7C (bytes (0x5300 ∷ 0x0001 ∷ [])) ∷ []) []
    -- ## 22: DEF_BITMAP
    -- the pane with a wrong xmax, ymax, depth
    ∷ faults 22 [] [] (def_bitmap the_pane 14 1 1)
    ∷ faults 22 [] [] (def_bitmap the_pane 16 1 1)
    ∷ faults 22 [] [] (def_bitmap the_pane 15 2 1)
    ∷ faults 22 [] [] (def_bitmap the_pane 15 1 2)
    -- the pane
    ∷ passes [] [] (def_bitmap the_pane 15 1 1)
    -- an odd address
    ∷ faults 22 [] [] (def_bitmap 0x61 15 3 1)
    -- bits per pixel that are no depth
    ∷ faults 22 [] [] (def_bitmap 0x60 3 1 3)
    ∷ faults 22 [] [] (def_bitmap 0x60 3 1 0)
    ∷ faults 22 [] [] (def_bitmap 0x60 3 1 16)
    -- rows that end past the store by a word: 17 pixels take two words
    ∷ faults 22 [] [] (def_bitmap 0x76 16 2 1)
    -- rows that end with it
    ∷ passes [] [] (def_bitmap 0x74 16 2 1)
    -- each depth
    ∷ passes [] [] (def_bitmap 0x70 7 7 2)
    ∷ passes [] [] (def_bitmap 0x70 7 3 4)
    ∷ passes [] [] (def_bitmap 0x70 7 1 8)
    -- ## 23 and 24: DEF_CLIP_RECT
    -- no bitmap, before the values
    ∷ faults 23 [] [] (def_clip_rect 16 0 0 0)
    -- each value outside the bitmap
    ∷ faults 24 on_pane [] (def_clip_rect 16 0 15 1)
    ∷ faults 24 on_pane [] (def_clip_rect 0 2 15 1)
    ∷ faults 24 on_pane [] (def_clip_rect 0 0 16 1)
    ∷ faults 24 on_pane [] (def_clip_rect 0 0 15 2)
    -- a negative one
    ∷ faults 24 on_pane [] (def_clip_rect (minus 1) 0 15 1)
    ∷ faults 24 on_pane [] (def_clip_rect 0 0 15 (minus 32768))
    -- the greatest values
    ∷ passes on_pane [] (def_clip_rect 15 1 15 1)
    -- a maximum below its minimum
    ∷ passes on_pane [] (def_clip_rect 15 1 0 0)
    -- the values of a bitmap in the store
    ∷ passes on_store [] (def_clip_rect 15 3 15 3)
    ∷ faults 24 on_store [] (def_clip_rect 0 0 15 4)
    -- ## 25: DEF_CHAR_SET; 26: CALL; 27: RETURN
    -- an odd base, in both modes
    ∷ faults 25 [] [] (word_font 0x41)
    ∷ faults 25 [] [] (byte_font 0x3FFFFF)
    -- any even base
    ∷ passes [] [] (byte_font 0x3FFFFE)
    -- eight return addresses kept, wherever CALL would go
    ∷ faults 26 (call 0x06 ∷ call 0x0C ∷ call 0x12 ∷ call 0x18 ∷ call 0x1E ∷ call 0x24 ∷ call 0x2A ∷ call 0x30 ∷ []) [] (call 0x41)
    -- seven
    ∷ passes (call 0x06 ∷ call 0x0C ∷ call 0x12 ∷ call 0x18 ∷ call 0x1E ∷ call 0x24 ∷ call 0x2A ∷ []) [] (call 0x41)
    -- none kept
    ∷ faults 27 [] [] return
    -- none left: the list calls the RETURN at 6, and meets one of its own
    ∷ faults 27 (link 0x08 ∷ return ∷ call 0x06 ∷ []) [] return
    -- ## 23: no bitmap, before every other fault of a drawing command
    ∷ faults 23 [] [] (point 0 0)
    ∷ faults 23 [] [] (line 1 1)
    ∷ faults 23 [] [] (rect 1 1)
    ∷ faults 23 [] [] (bit_blt 0 0 (minus 1) 0)
    ∷ faults 23 [] [] (polyline 0x61 1)
    ∷ faults 23 [] [] (circle (minus 1))
    ∷ faults 23 [] [] (scan_lines 0x61 1)
    ∷ faults 23 [] [] (char 0x61 1)
    ∷ faults 23 [] [] (bit_blt_m 0x61 0 0 0 0 (minus 1) 0)
    ∷ []

pub fault_cases : results table ≡ dues table
unfolding machine results dues
fault_cases = refl
