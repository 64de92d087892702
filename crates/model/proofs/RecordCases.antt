-- Refusal 12 (01, "Calls and their refusals, in order"; 02, A.6 and A.7): what a pane record may not have, sentence by sentence, and what it may. Each row
-- changes one thing of a good record.
use mathlib.Core.Path.{◌≡◌, refl}
use mathlib.Core.Bool.{Bool, true, false}
use mathlib.Core.List.{List, [], ◌∷◌}
use Prim.Native.Nat.{ℕ}
use lib.ListN.{replicate}
use Rattle.model.specs.Bitmaps.{Row, Bitmap}
use Rattle.model.specs.Record.{Pane, Clip, Scissor, fresh, with_progress, with_position, with_bitmap, with_clip, with_scissor, with_operation, with_spacing}
use Rattle.model.specs.Record.{with_orientation, with_font, with_flags, with_returns}
use Rattle.model.specs.Setup.{pane_bad}
use Rattle.model.specs.Calls.{State, call_refusal}
use Rattle.model.specs.declared.Bitmap.TheVariants as bitmap
use Rattle.model.specs.declared.Font.TheVariants as font
use Rattle.model.proofs.Computing.{machine}
use Rattle.model.proofs.Scripts.{scissor, empty}

pub record Case : Type 0 where
  pub refusal : ℕ
  pub row : Row
  pub held : Pane

-- a pane of 7 by 5 pixels of depth 2 at so many columns and rows of the screen, its store of 40 bytes
abbrev pane_row : ℕ → ℕ → Row
pane_row left top = record { left = left; top = top; width = 7; height = 5; start = 0; len = 40 }

abbrev console : Row → Pane → State
console r p =
    record {
      console = record { geometry = record { width = 20; height = 10; depth = 2 }; count = 1; rows = r ∷ []; panes = p ∷ [] };
      screen = replicate 60 0;
      stores = replicate 40 0;
    }

abbrev pub replied : List Case → List ℕ
replied [] = []
replied (c ∷ cs) = call_refusal (console c.row c.held) 0 ∷ replied cs

abbrev pub due : List Case → List ℕ
due [] = []
due (c ∷ cs) = c.refusal ∷ due cs

-- ## Parts of the rows below

-- at (3,2) of the screen, where no row says another place
abbrev taken : Pane → Case
taken p = record { refusal = 0; row = pane_row 3 2; held = p }

abbrev refused : Pane → Case
refused p = record { refusal = 12; row = pane_row 3 2; held = p }

abbrev taken_at : ℕ → ℕ → Pane → Case
taken_at left top p = record { refusal = 0; row = pane_row left top; held = p }

abbrev refused_at : ℕ → ℕ → Pane → Case
refused_at left top p = record { refusal = 12; row = pane_row left top; held = p }

abbrev clip : ℕ → ℕ → ℕ → ℕ → Clip
clip xmin ymin xmax ymax = record { xmin = xmin; ymin = ymin; xmax = xmax; ymax = ymax }

-- status and fault
abbrev at : ℕ → ℕ → Pane
at status fault = with_progress fresh (record { status = status; fault = fault; pointer = 0 })

-- .. and trap flag and switch
abbrev with : ℕ → ℕ → Bool → Bool → Pane
with status fault trap switch = with_flags (at status fault) (record { picking = false; pick = false; trap = trap; switch = switch })

-- a bitmap with its clip and its scissor
abbrev drawing : Bitmap → Clip → Scissor → Pane
drawing b c s = with_scissor (with_clip (with_bitmap fresh b) c) s

-- the pane, and 10 by 4 pixels of depth 2 at byte 8 of the store: 16 bytes
abbrev on_pane : Clip → Scissor → Pane
on_pane c s = drawing (bitmap.Pane 6 4 2) c s

abbrev on_store : Clip → Scissor → Pane
on_store c s = drawing (bitmap.Store 8 9 3 2) c s

abbrev kept : List ℕ → ℕ → Pane
kept addresses count = with_returns fresh (record { addresses = addresses; count = count })

abbrev pub table : List Case
table =
    taken fresh
    -- ## "a status above 3"
    ∷ taken (at 1 0)
    ∷ taken (at 2 0)
    ∷ refused (at 4 0)
    ∷ refused (at 4 20)
    ∷ refused (at 255 0)
    -- "Refusal 12 admits status 4 only with the switch on and the flag set" (02, A.7), and no fault there; at other statuses both are free
    ∷ taken (with 4 0 true true)
    ∷ refused (with 4 0 true false)
    ∷ refused (with 4 0 false true)
    ∷ refused (with 4 20 true true)
    ∷ refused (with 4 1 true true)
    ∷ refused (with 5 0 true true)
    ∷ taken (with 0 0 true false)
    ∷ taken (with 0 0 false true)
    ∷ taken (with 1 0 true false)
    ∷ taken (with 1 0 false true)
    ∷ taken (with 1 0 true true)
    ∷ taken (with 2 0 true true)
    ∷ taken (with 3 20 true true)
    -- ## "a fault outside 20 to 29 at status 3 or not 0 elsewhere"; "refusal 12 admits fault 30 at status 3" (02, A.1)
    ∷ refused (at 3 0)
    ∷ refused (at 3 19)
    ∷ taken (at 3 20)
    ∷ taken (at 3 29)
    ∷ taken (at 3 30)
    ∷ refused (at 3 31)
    ∷ refused (at 0 20)
    ∷ refused (at 1 1)
    ∷ refused (at 2 29)
    ∷ refused (at 1 30)
    -- ## "a bitmap breaking DEF_BITMAP's rule"
    -- the pane, with values for another row or depth
    ∷ taken (on_pane (clip 0 0 6 4) (scissor 3 2 7 5))
    ∷ refused (drawing (bitmap.Pane 5 4 2) (clip 0 0 0 0) (scissor 3 2 1 1))
    ∷ refused (drawing (bitmap.Pane 7 4 2) (clip 0 0 0 0) (scissor 3 2 1 1))
    ∷ refused (drawing (bitmap.Pane 6 3 2) (clip 0 0 0 0) (scissor 3 2 1 1))
    ∷ refused (drawing (bitmap.Pane 6 5 2) (clip 0 0 0 0) (scissor 3 2 1 1))
    ∷ refused (drawing (bitmap.Pane 6 4 1) (clip 0 0 0 0) (scissor 3 2 1 1))
    ∷ refused (drawing (bitmap.Pane 6 4 4) (clip 0 0 0 0) (scissor 3 2 1 1))
    -- in the store: an odd address, bits that are no depth, past the end by a word and just inside
    ∷ taken (on_store (clip 0 0 9 3) empty)
    ∷ refused (drawing (bitmap.Store 9 9 3 2) (clip 0 0 0 0) empty)
    ∷ refused (drawing (bitmap.Store 8 9 3 3) (clip 0 0 0 0) empty)
    ∷ refused (drawing (bitmap.Store 26 9 3 2) (clip 0 0 0 0) empty)
    ∷ taken (drawing (bitmap.Store 24 9 3 2) (clip 0 0 0 0) empty)
    -- the pane's address is no address in the store
    ∷ refused (drawing (bitmap.Store 0x200000 6 4 2) (clip 0 0 0 0) empty)
    -- ## "a clip value outside the bitmap, or not 0 without one"
    ∷ refused (on_pane (clip 7 0 6 4) empty)
    ∷ refused (on_pane (clip 0 5 6 4) empty)
    ∷ refused (on_pane (clip 0 0 7 4) (scissor 3 2 8 5))
    ∷ refused (on_pane (clip 0 0 6 5) (scissor 3 2 7 6))
    ∷ refused (on_store (clip 10 0 9 3) empty)
    ∷ refused (on_store (clip 0 4 9 3) empty)
    ∷ refused (on_store (clip 0 0 10 3) empty)
    ∷ refused (on_store (clip 0 0 9 4) empty)
    ∷ refused (on_store (clip 0 0 9 0xFFFF) empty)
    -- a maximum below its minimum may be
    ∷ taken (on_pane (clip 6 4 0 0) empty)
    ∷ taken (on_store (clip 9 3 0 0) empty)
    ∷ refused (drawing bitmap.Absent (clip 1 0 0 0) empty)
    ∷ refused (drawing bitmap.Absent (clip 0 1 0 0) empty)
    ∷ refused (drawing bitmap.Absent (clip 0 0 1 0) empty)
    ∷ refused (drawing bitmap.Absent (clip 0 0 0 1) empty)
    -- ## "a font base odd or above 22 bits"
    ∷ refused (with_font fresh (font.Word 3))
    ∷ refused (with_font fresh (font.Byte 3))
    ∷ refused (with_font fresh (font.Word 0x400000))
    ∷ refused (with_font fresh (font.Byte 0x400000))
    ∷ taken (with_font fresh (font.Word 0x3FFFFE))
    ∷ taken (with_font fresh (font.Byte 0x3FFFFE))
    -- ## "an operation above 15"
    ∷ refused (with_operation fresh 16 0xFFFF)
    ∷ taken (with_operation fresh 15 0xFFFF)
    -- ## "a path or rotation above 3"
    ∷ refused (with_orientation fresh 4 0)
    ∷ refused (with_orientation fresh 0 4)
    ∷ taken (with_orientation fresh 3 3)
    -- ## "over eight return addresses"
    ∷ refused (kept (replicate 8 0) 9)
    ∷ taken (kept (replicate 8 1) 8)
    -- ## "A pane record in which it isn't equal falls under refusal 12" (02, A.6): the scissor is "kept as left, top, width and height"
    -- columns 1 to 4 and rows 2 to 3 of the pane are four columns from 4 and two rows from 4 of the screen
    ∷ taken (on_pane (clip 1 2 4 3) (scissor 4 4 4 2))
    ∷ refused (on_pane (clip 1 2 4 3) (scissor 4 4 5 2))
    ∷ refused (on_pane (clip 1 2 4 3) (scissor 4 4 3 2))
    ∷ refused (on_pane (clip 1 2 4 3) (scissor 4 4 4 3))
    ∷ refused (on_pane (clip 1 2 4 3) (scissor 4 4 4 1))
    ∷ refused (on_pane (clip 1 2 4 3) (scissor 5 4 4 2))
    ∷ refused (on_pane (clip 1 2 4 3) (scissor 3 4 4 2))
    ∷ refused (on_pane (clip 1 2 4 3) (scissor 4 5 4 2))
    ∷ refused (on_pane (clip 1 2 4 3) (scissor 4 3 4 2))
    -- that of the whole pane, that of the pane's own coordinates, and none
    ∷ refused (on_pane (clip 1 2 4 3) (scissor 3 2 7 5))
    ∷ refused (on_pane (clip 1 2 4 3) (scissor 1 2 4 2))
    ∷ refused (on_pane (clip 1 2 4 3) empty)
    -- one pixel, the last of the pane
    ∷ taken (on_pane (clip 6 4 6 4) (scissor 9 6 1 1))
    ∷ refused (on_pane (clip 6 4 6 4) empty)
    -- "four zeros when empty": a maximum below its minimum, by one on one axis
    ∷ taken (on_pane (clip 2 0 1 4) empty)
    ∷ refused (on_pane (clip 2 0 1 4) (scissor 5 2 0 5))
    ∷ taken (on_pane (clip 0 3 6 2) empty)
    ∷ refused (on_pane (clip 0 3 6 2) (scissor 3 5 7 0))
    ∷ refused (on_pane (clip 6 4 0 0) (scissor 9 6 0 0))
    ∷ refused (on_pane (clip 6 4 0 0) (scissor 1 0 0 0))
    ∷ refused (on_pane (clip 6 4 0 0) (scissor 0 1 0 0))
    ∷ refused (on_pane (clip 6 4 0 0) (scissor 0 0 1 0))
    ∷ refused (on_pane (clip 6 4 0 0) (scissor 0 0 0 1))
    -- "empty if the active bitmap is in the store or absent"
    ∷ refused (on_store (clip 0 0 9 3) (scissor 3 2 7 5))
    ∷ refused (on_store (clip 0 0 9 3) (scissor 3 2 10 4))
    ∷ refused (on_store (clip 0 0 9 3) (scissor 1 0 0 0))
    ∷ refused (on_store (clip 9 3 0 0) (scissor 0 0 0 1))
    ∷ refused (with_scissor fresh (scissor 3 2 7 5))
    ∷ refused (with_scissor fresh (scissor 3 2 1 1))
    ∷ refused (with_scissor fresh (scissor 0 1 0 0))
    ∷ refused (with_scissor fresh (scissor 0 0 1 0))
    -- the row moved without a set-up, and the record kept: it holds where the pane was, unless it holds nothing
    ∷ refused_at 4 2 (on_pane (clip 1 2 4 3) (scissor 4 4 4 2))
    ∷ refused_at 3 1 (on_pane (clip 1 2 4 3) (scissor 4 4 4 2))
    ∷ taken_at 4 1 (on_pane (clip 1 2 4 3) (scissor 5 3 4 2))
    ∷ taken_at 4 1 (on_pane (clip 2 0 1 4) empty)
    ∷ taken_at 4 1 (on_store (clip 0 0 9 3) empty)
    ∷ taken_at 4 1 fresh
    -- ## What else a record holds is free
    ∷ taken (with_progress fresh (record { status = 1; fault = 0; pointer = 0xFFFFFFFF }))
    ∷ taken (with_position fresh (record { x = 0xFFFF; y = 0x8000 }))
    ∷ taken (with_spacing fresh 0xFFFF)
    ∷ taken (with_flags fresh (record { picking = true; pick = true; trap = true; switch = true }))
    ∷ taken (kept (replicate 8 0xFFFFFFFF) 0)
    ∷ []

pub record_cases : replied table ≡ due table
unfolding machine
record_cases = refl

-- ## The greatest bitmaps, in the longest store

abbrev bad : Bitmap → Bool
bad b =
    pane_bad (record { width = 1; height = 1; depth = 1 }) (record { left = 0; top = 0; width = 1; height = 1; start = 0; len = 2097152 })
    (with_bitmap fresh b)

pub greatest_width : bad (bitmap.Store 0 0x7FFF 0 1) ≡ false
unfolding machine
greatest_width = refl

pub greater_width : bad (bitmap.Store 0 0x8000 0 1) ≡ true
unfolding machine
greater_width = refl

pub greatest_height : bad (bitmap.Store 0 0 0x7FFF 1) ≡ false
unfolding machine
greatest_height = refl

pub greater_height : bad (bitmap.Store 0 0 0x8000 1) ≡ true
unfolding machine
greater_height = refl
