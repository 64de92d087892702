-- Set-up and the calls on a pane (01, "Calls and their refusals, in order"; 02, A.2 and A.7): refusals 1 to 5 and 33, where 6 and 12 stand before
-- them, what each call replies, and what it leaves: every bit of the record and of both buffers is compared.
use mathlib.Core.Path.{◌≡◌, refl}
use mathlib.Core.Bool.{Bool, true, false}
use mathlib.Core.List.{List, [], ◌∷◌, ◌++◌}
use Prim.Native.Nat.{ℕ}
use lib.IntN.{ℤ, pos}
use lib.ListN.{replicate}
use Rattle.model.specs.Bitmaps.{Geometry, Row}
use Rattle.model.specs.Record.{Pane, with_flags}
use Rattle.model.specs.declared.Bitmap.TheVariants as bitmap
use Rattle.model.specs.declared.Font.TheVariants as font
use Rattle.model.specs.Figures.{neg}
use Rattle.model.specs.Runs.{runs}
use Rattle.model.specs.Setup.{row_at}
use Rattle.model.specs.Calls.{State, Answer, Request, on, put, start, run, look, pixel, peek, clear, judge, switch, exec, set_up}
use Rattle.model.proofs.Scripts.{values}
use Rattle.model.proofs.Computing.{machine}

-- ## Two panes

-- a record in which nothing is as in a fresh one but the scissor, its bitmap being in the store: two return addresses kept; by status and fault,
-- trap flag and switch
abbrev busy_at : ℕ → ℕ → Bool → Bool → Pane
busy_at status fault trap stops =
    record {
      progress = record { status = status; fault = fault; pointer = 6 };
      position = record { x = 0xFFFB; y = 7 };
      bitmap = bitmap.Store 2 15 1 1;
      clip = record { xmin = 1; ymin = 0; xmax = 14; ymax = 1 };
      scissor = record { left = 0; top = 0; width = 0; height = 0 };
      pen = record { fore = 0x1234; back = 0x5678; op = 6; mask = 0xFF0F; pattern = 0xAAAA; transparent = true };
      text = record { spacing = 3; path = 1; rotation = 2; font = font.Byte 8 };
      flags = record { picking = true; pick = true; trap = trap; switch = stops };
      returns = record { addresses = 4 ∷ 2 ∷ 0 ∷ 0 ∷ 0 ∷ 0 ∷ 0 ∷ 0 ∷ []; count = 2 };
    }

-- faulted, and stopped after a CHAR that met a T
abbrev busy : Pane
busy = busy_at 3 29 true true

abbrev stopped : Pane
stopped = busy_at 4 0 true true

-- "pointer at the address, status 1, fault 0, no return addresses, the rest kept"
abbrev busy_started : ℕ → Pane
busy_started a =
    record {
      progress = record { status = 1; fault = 0; pointer = a };
      position = record { x = 0xFFFB; y = 7 };
      bitmap = bitmap.Store 2 15 1 1;
      clip = record { xmin = 1; ymin = 0; xmax = 14; ymax = 1 };
      scissor = record { left = 0; top = 0; width = 0; height = 0 };
      pen = record { fore = 0x1234; back = 0x5678; op = 6; mask = 0xFF0F; pattern = 0xAAAA; transparent = true };
      text = record { spacing = 3; path = 1; rotation = 2; font = font.Byte 8 };
      flags = record { picking = true; pick = true; trap = true; switch = true };
      returns = record { addresses = replicate 8 0; count = 0 };
    }

-- "A fresh pane record: .."
abbrev as_new : Pane
as_new =
    record {
      progress = record { status = 0; fault = 0; pointer = 0 };
      position = record { x = 0; y = 0 };
      bitmap = bitmap.Absent;
      clip = record { xmin = 0; ymin = 0; xmax = 0; ymax = 0 };
      scissor = record { left = 0; top = 0; width = 0; height = 0 };
      pen = record { fore = 0; back = 0; op = 5; mask = 0xFFFF; pattern = 0xFFFF; transparent = false };
      text = record { spacing = 0; path = 0; rotation = 0; font = font.Absent };
      flags = record { picking = false; pick = false; trap = false; switch = false };
      returns = record { addresses = replicate 8 0; count = 0 };
    }

-- a pane that draws on itself: status, fault, pointer and position's x
abbrev drawing : ℕ → ℕ → ℕ → ℕ → Pane
drawing status fault pointer x =
    record {
      progress = record { status = status; fault = fault; pointer = pointer };
      position = record { x = x; y = 0 };
      bitmap = bitmap.Pane 4 0 1;
      clip = record { xmin = 0; ymin = 0; xmax = 4; ymax = 0 };
      scissor = record { left = 9; top = 1; width = 5; height = 1 };
      pen = record { fore = 0xFFFF; back = 0; op = 5; mask = 0xFFFF; pattern = 0xFFFF; transparent = false };
      text = record { spacing = 0; path = 0; rotation = 0; font = font.Absent };
      flags = record { picking = false; pick = false; trap = false; switch = false };
      returns = record { addresses = replicate 8 0; count = 0 };
    }

-- a record with no flag but the trap flag and the switch, as they are given
abbrev flagged : Pane → Bool → Bool → Pane
flagged p trap stops = with_flags p (record { picking = false; pick = false; trap = trap; switch = stops })

-- on a screen of 16 by 2 pixels of depth 1: pane 0 of 6 by 2 at (3,0), pane 1 of 5 by 1 at (9,1)
abbrev geometry : Geometry
geometry = record { width = 16; height = 2; depth = 1 }

abbrev rows : List Row
rows =
    record { left = 3; top = 0; width = 6; height = 2; start = 2; len = 8 }
    ∷ record { left = 9; top = 1; width = 5; height = 1; start = 12; len = 6 }
    ∷ []

-- by the record of each, the screen and the stores
abbrev state : Pane → Pane → List ℕ → List ℕ → State
state p q screen stores =
    record { console = record { geometry = geometry; count = 2; rows = rows; panes = p ∷ q ∷ replicate 6 as_new }; screen = screen; stores = stores }

-- the screen, low byte first: its rows are 10110101_01101100 and 00001111_00000000
abbrev screen : List ℕ
screen = 0b01101100 ∷ 0b10110101 ∷ 0b00000000 ∷ 0b00001111 ∷ []

-- pane 0's store is bytes 2 to 9; pane 1's is bytes 12 to 17, and holds POINT (2,0)
abbrev around : List ℕ → List ℕ
around store = 0xA0 ∷ 0xA1 ∷ store ++ (0xAA ∷ 0xAB ∷ 0x00 ∷ 0x53 ∷ 0x02 ∷ 0x00 ∷ 0x00 ∷ 0x00 ∷ 0xB2 ∷ [])

abbrev stores : List ℕ
stores = around (0xA2 ∷ 0xA3 ∷ 0xA4 ∷ 0xA5 ∷ 0xA6 ∷ 0xA7 ∷ 0xA8 ∷ 0xA9 ∷ [])

abbrev begin : State
begin = state busy (drawing 1 0 0 1) screen stores

-- ## Calls

-- a state as lent, a call, its reply's values, the state as left
pub record Case : Type 0 where
  pub lent : State
  pub call : Request
  pub values : List ℤ
  pub left : State

pub record Result : Type 0 where
  pub values : List ℤ
  pub left : State

abbrev came : Answer → Result
came a = record { values = values a.reply; left = a.state }

abbrev pub results : List Case → List Result
results [] = []
results (c ∷ cs) = came (exec c.lent c.call) ∷ results cs

abbrev pub due : List Case → List Result
due [] = []
due (c ∷ cs) = record { values = c.values; left = c.left } ∷ due cs

-- a call that keeps every bit
abbrev tells : State → Request → List ℤ → Case
tells s c v = record { lent = s; call = c; values = v; left = s }

abbrev refuses : State → Request → ℕ → Case
refuses s c n = tells s c (pos n ∷ [])

-- a call that leaves something else
abbrev leaves : Request → List ℤ → State → Case
leaves c v t = record { lent = begin; call = c; values = v; left = t }

-- a call on pane 0 that leaves another record at most
abbrev turns : Pane → Request → List ℤ → Pane → Case
turns p c v q = record { lent = state p (drawing 1 0 0 1) screen stores; call = c; values = v; left = state q (drawing 1 0 0 1) screen stores }

-- all nine calls on a pane, with values that would be refused for themselves too
abbrev every_call : State → ℕ → ℕ → List Case
every_call s k n =
    refuses s (on k (put 9 [])) n
    ∷ refuses s (on k (start 9)) n
    ∷ refuses s (on k (run 1)) n
    ∷ refuses s (on k look) n
    ∷ refuses s (on k (pixel 16 2)) n
    ∷ refuses s (on k (peek 9)) n
    ∷ refuses s (on k clear) n
    ∷ refuses s (on k (judge 9)) n
    ∷ refuses s (on k (switch 2)) n
    ∷ []

-- records that refusal 12 names, and besides a geometry that 6 names
abbrev spoilt : Geometry → State
spoilt g =
    record { console = record { geometry = g; count = 2; rows = rows; panes = replicate 8 (drawing 4 0 0 0) }; screen = screen; stores = stores }

abbrev bad_records : State
bad_records = spoilt geometry

abbrev bad_depth : State
bad_depth = spoilt (record { width = 16; height = 2; depth = 3 })

abbrev pub table : List Case
table =
    -- ## Put: it may end with the store, and be empty there
    leaves (on 0 (put 3 (1 ∷ 2 ∷ []))) (pos 0 ∷ []) (state busy (drawing 1 0 0 1) screen (around (0xA2 ∷ 0xA3 ∷ 0xA4 ∷ 1 ∷ 2 ∷ 0xA7 ∷ 0xA8 ∷ 0xA9 ∷ [])))
    ∷ leaves (on 0 (put 6 (1 ∷ 2 ∷ []))) (pos 0 ∷ []) (state busy (drawing 1 0 0 1) screen (around (0xA2 ∷ 0xA3 ∷ 0xA4 ∷ 0xA5 ∷ 0xA6 ∷ 0xA7 ∷ 1 ∷ 2 ∷ [])))
    ∷ refuses begin (on 0 (put 7 (1 ∷ 2 ∷ []))) 2
    ∷ refuses begin (on 0 (put 0 (replicate 9 0))) 2
    ∷ tells begin (on 0 (put 8 [])) (pos 0 ∷ [])
    ∷ refuses begin (on 0 (put 9 [])) 2
    ∷ refuses begin (on 1 (put 5 (1 ∷ 2 ∷ []))) 2
    -- ## Start: 3 before 2
    ∷ leaves (on 0 (start 4)) (pos 0 ∷ []) (state (busy_started 4) (drawing 1 0 0 1) screen stores)
    ∷ leaves (on 0 (start 6)) (pos 0 ∷ []) (state (busy_started 6) (drawing 1 0 0 1) screen stores)
    ∷ leaves (on 1 (start 4)) (pos 0 ∷ []) (state busy (drawing 1 0 4 1) screen stores)
    ∷ refuses begin (on 0 (start 8)) 2
    ∷ refuses begin (on 0 (start 7)) 3
    ∷ refuses begin (on 0 (start 9)) 3
    -- ## Run: by budget. POINT (2,0) from x = 1 draws pixel 3 of pane 1, screen pixel (12,1); after it the store ends
    ∷ tells begin (on 1 (run 0)) (pos 0 ∷ pos 0 ∷ pos 1 ∷ pos 0 ∷ pos 0 ∷ [])
    ∷ leaves (on 1 (run 1)) (pos 0 ∷ pos 1 ∷ pos 1 ∷ pos 0 ∷ pos 1 ∷ [])
    (state busy (drawing 1 0 6 3) (0b01101100 ∷ 0b10110101 ∷ 0b00001000 ∷ 0b00001111 ∷ []) stores)
    ∷ leaves (on 1 (run 2)) (pos 0 ∷ pos 1 ∷ pos 3 ∷ pos 21 ∷ pos 1 ∷ [])
    (state busy (drawing 3 21 6 3) (0b01101100 ∷ 0b10110101 ∷ 0b00001000 ∷ 0b00001111 ∷ []) stores)
    ∷ leaves (on 1 (run 9)) (pos 0 ∷ pos 1 ∷ pos 3 ∷ pos 21 ∷ pos 1 ∷ [])
    (state busy (drawing 3 21 6 3) (0b01101100 ∷ 0b10110101 ∷ 0b00001000 ∷ 0b00001111 ∷ []) stores)
    -- status 3, 0, 2
    ∷ refuses begin (on 0 (run 1)) 4
    ∷ refuses (state as_new busy screen stores) (on 0 (run 0)) 4
    ∷ refuses (state busy (drawing 2 0 0 0) screen stores) (on 1 (run 1)) 4
    -- ## Look
    ∷ tells begin (on 0 look) (pos 0 ∷ pos 3 ∷ pos 29 ∷ pos 6 ∷ neg 5 ∷ pos 7 ∷ pos 1 ∷ pos 1 ∷ [])
    ∷ tells begin (on 1 look) (pos 0 ∷ pos 1 ∷ pos 0 ∷ pos 0 ∷ pos 1 ∷ pos 0 ∷ pos 0 ∷ pos 0 ∷ [])
    -- ## Pixel: pane 0 shows 101010 over 011110
    ∷ tells begin (on 0 (pixel 0 0)) (pos 0 ∷ pos 1 ∷ [])
    ∷ tells begin (on 0 (pixel 5 0)) (pos 0 ∷ pos 0 ∷ [])
    ∷ tells begin (on 0 (pixel 4 1)) (pos 0 ∷ pos 1 ∷ [])
    ∷ tells begin (on 0 (pixel 5 1)) (pos 0 ∷ pos 0 ∷ [])
    ∷ tells begin (on 1 (pixel 4 0)) (pos 0 ∷ pos 0 ∷ [])
    ∷ refuses begin (on 0 (pixel 6 0)) 5
    ∷ refuses begin (on 0 (pixel 0 2)) 5
    ∷ refuses begin (on 1 (pixel 5 0)) 5
    ∷ refuses begin (on 1 (pixel 0 1)) 5
    -- ## Peek
    ∷ tells begin (on 0 (peek 0)) (pos 0 ∷ pos 0xA2 ∷ [])
    ∷ tells begin (on 0 (peek 7)) (pos 0 ∷ pos 0xA9 ∷ [])
    ∷ tells begin (on 1 (peek 1)) (pos 0 ∷ pos 0x53 ∷ [])
    ∷ refuses begin (on 0 (peek 8)) 2
    ∷ refuses begin (on 1 (peek 6)) 2
    -- ## Clear
    ∷ leaves (on 0 clear) (pos 0 ∷ []) (state as_new (drawing 1 0 0 1) screen stores)
    ∷ leaves (on 1 clear) (pos 0 ∷ []) (state busy as_new screen stores)
    -- ## Judge: 3 before 2, as start. Pane 0 has an unknown opcode, and at 6 a CHAR cut short; pane 1's POINT has no bitmap,
    -- though its record has one
    ∷ tells begin (on 0 (judge 0)) (pos 0 ∷ pos 20 ∷ pos 0 ∷ [])
    ∷ tells begin (on 0 (judge 6)) (pos 0 ∷ pos 21 ∷ pos 6 ∷ [])
    ∷ tells begin (on 1 (judge 0)) (pos 0 ∷ pos 23 ∷ pos 0 ∷ [])
    ∷ refuses begin (on 0 (judge 8)) 2
    ∷ refuses begin (on 0 (judge 7)) 3
    ∷ refuses begin (on 0 (judge 9)) 3
    ∷ refuses begin (on 1 (judge 6)) 2
    -- ## The switch (02, A.7): 0 turns it off and 1 on, at status 3, 0, 2 and 1, and nothing else changes
    ∷ turns busy (on 0 (switch 0)) (pos 0 ∷ []) (busy_at 3 29 true false)
    ∷ turns busy (on 0 (switch 1)) (pos 0 ∷ []) busy
    ∷ turns as_new (on 0 (switch 1)) (pos 0 ∷ []) (flagged as_new false true)
    ∷ turns (flagged as_new true true) (on 0 (switch 0)) (pos 0 ∷ []) (flagged as_new true false)
    ∷ turns (busy_at 2 0 false false) (on 0 (switch 1)) (pos 0 ∷ []) (busy_at 2 0 false true)
    ∷ turns (busy_at 1 0 true true) (on 0 (switch 0)) (pos 0 ∷ []) (busy_at 1 0 true false)
    ∷ leaves (on 1 (switch 1)) (pos 0 ∷ []) (state busy (flagged (drawing 1 0 0 1) false true) screen stores)
    ∷ refuses begin (on 0 (switch 2)) 33
    ∷ refuses begin (on 1 (switch 0xFFFFFFFF)) 33
    -- ## Status 4 (02, A.7): turned off it is 1 and the flag stays, turned on nothing changes
    ∷ turns stopped (on 0 (switch 0)) (pos 0 ∷ []) (busy_at 1 0 true false)
    ∷ turns stopped (on 0 (switch 1)) (pos 0 ∷ []) stopped
    ∷ turns stopped (on 0 (switch 2)) (pos 33 ∷ []) stopped
    -- run clears the flag, with budget 0 too, and goes on: pane 0 faults at its CHAR cut short, pane 1 draws its POINT
    ∷ turns stopped (on 0 (run 0)) (pos 0 ∷ pos 0 ∷ pos 1 ∷ pos 0 ∷ pos 0 ∷ []) (busy_at 1 0 false true)
    ∷ turns stopped (on 0 (run 1)) (pos 0 ∷ pos 0 ∷ pos 3 ∷ pos 21 ∷ pos 0 ∷ []) (busy_at 3 21 false true)
    ∷ record {
      lent = state busy (flagged (drawing 4 0 0 1) true true) screen stores;
      call = on 1 (run 1);
      values = pos 0 ∷ pos 1 ∷ pos 1 ∷ pos 0 ∷ pos 1 ∷ [];
      left = state busy (flagged (drawing 1 0 6 3) false true) (0b01101100 ∷ 0b10110101 ∷ 0b00001000 ∷ 0b00001111 ∷ []) stores;
    }
    -- start keeps the flag and the switch, clear neither; look and judge tell
    ∷ turns stopped (on 0 (start 4)) (pos 0 ∷ []) (busy_started 4)
    ∷ turns stopped (on 0 clear) (pos 0 ∷ []) as_new
    ∷ turns stopped (on 0 look) (pos 0 ∷ pos 4 ∷ pos 0 ∷ pos 6 ∷ neg 5 ∷ pos 7 ∷ pos 1 ∷ pos 1 ∷ []) stopped
    ∷ turns stopped (on 0 (judge 6)) (pos 0 ∷ pos 21 ∷ pos 6 ∷ []) stopped
    -- ## 1, then 12, then a call's own; set-up's refusals before all
    ∷ refuses begin (on 9 look) 1
    ∷ every_call begin 2 1
    ++ (every_call bad_records 0 12
    ++ (every_call bad_records 2 1
    ++ (every_call bad_depth 0 6 ++ every_call bad_depth 2 6)))

pub call_cases : results table ≡ due table
unfolding machine
call_cases = refl

-- "While status is 1": nothing is done at another
pub parked_runs : (runs geometry (row_at rows 1) 9 (drawing 0 0 0 1) screen (0x00 ∷ 0x53 ∷ 0x02 ∷ 0x00 ∷ 0x00 ∷ 0x00 ∷ [])).pane ≡ drawing 0 0 0 1
unfolding machine
parked_runs = refl

-- ## Set-up

-- "accepted, it makes all eight fresh and both buffers keep every bit"
pub set_up_accepted : came (set_up begin) ≡ record { values = pos 0 ∷ []; left = state as_new as_new screen stores }
unfolding machine
set_up_accepted = refl

pub set_up_is_refused : came (set_up bad_depth) ≡ record { values = pos 6 ∷ []; left = bad_depth }
unfolding machine
set_up_is_refused = refl

-- it ignores the pane records
pub set_up_any_records : came (set_up bad_records) ≡ record { values = pos 0 ∷ []; left = state as_new as_new screen stores }
unfolding machine
set_up_any_records = refl
