-- The scissor (02, A.6) by computation: what it is after each of a list of calls, and which pixels it holds: those that a fill of everything draws.
-- All numbers were worked out by hand from the sentences.
use mathlib.Core.Path.{◌≡◌, refl}
use mathlib.Core.Bool.{Bool, ◌&&◌}
use mathlib.Core.List.{List, [], ◌∷◌, ◌++◌, map}
use Prim.Native.Nat.{ℕ, ◌+◌, ◌-◌}
use lib.Dec.{ltb, leb}
use lib.IntN.{ℤ, pos}
use lib.ListN.{replicate}
use Rattle.model.specs.Ranges.{listed}
use Rattle.model.specs.Words.{num}
use Rattle.model.specs.Record.{Pane, Scissor, fresh, with_scissor}
use Rattle.model.specs.Calls.{State, put, start, run, look, pixel, peek, clear, judge, Request, on, record_of, exec, set_up}
use Rattle.model.proofs.Computing.{machine}
use Rattle.model.proofs.Listings.{minus, the_pane, halt, def_bitmap, def_clip_rect, def_colors, abs_mov, line, scan_lines, bytes, listing}
use Rattle.model.proofs.Scripts.{values, script, piece, laid, scissor, empty}
use Rattle.model.proofs.Pictures.{painted, blank}

-- ## After each call

-- what stands in the store of pane 0, and after it, at 74 hex, the two words of a bitmap of 8 by 2 pixels
abbrev commands : List (List ℕ)
commands =
    -- 00 hex
    def_bitmap the_pane 4 3 1 ∷ def_clip_rect 1 1 3 2 ∷ def_colors 0xFFFF 0x0000 ∷ abs_mov 0 1 ∷ line 4 0 ∷ def_clip_rect 3 0 1 3
    -- 32 hex
    ∷ def_bitmap 0x74 7 1 1 ∷ def_clip_rect 2 0 5 1 ∷ def_bitmap the_pane 4 3 1 ∷ def_clip_rect 4 3 4 3 ∷ def_clip_rect 0 0 5 3
    -- 68 hex
    ∷ def_bitmap the_pane 5 3 1 ∷ []

-- pane 0 has 5 by 4 pixels from (2,1) of the screen on, pane 1 has 3 by 4 from (8,3) on; all eight records hold a scissor, for set-up to ignore
abbrev console : State
console =
    record {
      console = record {
        geometry = record { width = 16; height = 7; depth = 1 };
        count = 2;
        rows =
            record { left = 2; top = 1; width = 5; height = 4; start = 0; len = 0x78 }
            ∷ record { left = 8; top = 3; width = 3; height = 4; start = 0x78; len = 0x16 } ∷ [];
        panes = replicate 8 (with_scissor fresh (scissor 2 1 5 4));
      };
      screen = blank 14;
      stores = laid (piece 0 (listing commands) ∷ []) (replicate 0x8E 0);
    }

-- a call, what it is told, and then the scissors of both panes
pub record Step : Type 0 where
  pub call : Request
  pub told : List ℤ
  pub first : Scissor
  pub second : Scissor

abbrev step : Request → List ℤ → Scissor → Scissor → Step
step c v first second = record { call = c; told = v; first = first; second = second }

-- the same calls with what they are told and leave
unfoldable pub made : State → List Step → List Step
made s [] = []
made s (x ∷ xs) =
    let a = exec s x.call in
    step x.call (values a.reply) (record_of a.state 0).scissor (record_of a.state 1).scissor ∷ made a.state xs

-- accepted; run of one command; stopped by a fault
abbrev done : List ℤ
done = pos 0 ∷ []

abbrev ran_one : List ℤ
ran_one = pos 0 ∷ pos 1 ∷ pos 1 ∷ pos 0 ∷ pos 0 ∷ []

abbrev faulted : ℕ → List ℤ
faulted f = pos 0 ∷ pos 0 ∷ pos 3 ∷ pos f ∷ pos 0 ∷ []

abbrev pub table : List Step
table =
    step (on 1 (put 0 (listing (def_bitmap the_pane 2 3 1 ∷ def_clip_rect 0 1 2 1 ∷ [])))) done empty empty
    ∷ step (on 0 (start 0x00)) done empty empty
    -- DEF_BITMAP, the pane: "It sets the clip to the whole bitmap"
    ∷ step (on 0 (run 1)) ran_one (scissor 2 1 5 4) empty
    ∷ step (on 1 (start 0x00)) done (scissor 2 1 5 4) empty
    ∷ step (on 1 (run 1)) ran_one (scissor 2 1 5 4) (scissor 8 3 3 4)
    -- DEF_CLIP_RECT: columns 1 to 3, rows 1 to 2
    ∷ step (on 0 (run 1)) ran_one (scissor 3 2 3 2) (scissor 8 3 3 4)
    -- DEF_COLORS, ABS_MOV, and a LINE, of which three pixels are drawn
    ∷ step (on 0 (run 3)) (pos 0 ∷ pos 3 ∷ pos 1 ∷ pos 0 ∷ pos 3 ∷ []) (scissor 3 2 3 2) (scissor 8 3 3 4)
    -- the calls that only tell; the judge meets the bitmap in the store
    ∷ step (on 0 look) (pos 0 ∷ pos 1 ∷ pos 0 ∷ pos 0x28 ∷ pos 4 ∷ pos 1 ∷ pos 0 ∷ pos 0 ∷ []) (scissor 3 2 3 2) (scissor 8 3 3 4)
    ∷ step (on 0 (pixel 1 1)) (pos 0 ∷ pos 1 ∷ []) (scissor 3 2 3 2) (scissor 8 3 3 4)
    ∷ step (on 0 (peek 1)) (pos 0 ∷ pos 0x1A ∷ []) (scissor 3 2 3 2) (scissor 8 3 3 4)
    ∷ step (on 0 (judge 0x00)) (pos 0 ∷ pos 31 ∷ pos 0x32 ∷ []) (scissor 3 2 3 2) (scissor 8 3 3 4)
    -- the other pane's DEF_CLIP_RECT: all columns, row 1
    ∷ step (on 1 (run 1)) ran_one (scissor 3 2 3 2) (scissor 8 4 3 1)
    -- DEF_CLIP_RECT with a maximum below its minimum
    ∷ step (on 0 (run 1)) ran_one empty (scissor 8 4 3 1)
    -- DEF_BITMAP in the store, and DEF_CLIP_RECT there
    ∷ step (on 0 (run 1)) ran_one empty (scissor 8 4 3 1)
    ∷ step (on 0 (run 1)) ran_one empty (scissor 8 4 3 1)
    -- back to the pane, and there the last pixel alone
    ∷ step (on 0 (run 1)) ran_one (scissor 2 1 5 4) (scissor 8 4 3 1)
    ∷ step (on 0 (run 1)) ran_one (scissor 6 4 1 1) (scissor 8 4 3 1)
    -- DEF_CLIP_RECT with a value outside the bitmap; then run is refused
    ∷ step (on 0 (run 1)) (faulted 24) (scissor 6 4 1 1) (scissor 8 4 3 1)
    ∷ step (on 0 (run 1)) (pos 4 ∷ []) (scissor 6 4 1 1) (scissor 8 4 3 1)
    -- DEF_BITMAP, the pane with another width
    ∷ step (on 0 (put 0x74 (0xFF ∷ []))) done (scissor 6 4 1 1) (scissor 8 4 3 1)
    ∷ step (on 0 (start 0x68)) done (scissor 6 4 1 1) (scissor 8 4 3 1)
    ∷ step (on 0 (run 1)) (faulted 22) (scissor 6 4 1 1) (scissor 8 4 3 1)
    -- "fresh pane record", and DEF_CLIP_RECT without a bitmap
    ∷ step (on 0 clear) done empty (scissor 8 4 3 1)
    ∷ step (on 0 (start 0x0C)) done empty (scissor 8 4 3 1)
    ∷ step (on 0 (run 1)) (faulted 23) empty (scissor 8 4 3 1)
    ∷ []

pub after_setup : map (λ (p : Pane). p.scissor) (set_up console).state.console.panes ≡ replicate 8 empty
unfolding machine
after_setup = refl

pub after_calls : made (set_up console).state table ≡ table
unfolding machine made
after_calls = refl

-- ## The pixels that it holds

-- SCAN_LINES with six triples at 40 hex: from (−2,−1) of the bitmap on six rows of nine pixels, all ones. These are the pane's pixels and some on
-- each side of it
abbrev fill : List (List ℕ)
fill = def_colors 0xFFFF 0x0000 ∷ abs_mov (minus 2) (minus 1) ∷ scan_lines 0x40 6 ∷ halt ∷ []

abbrev triples : List ℕ
triples = 0 ∷ 0 ∷ 8 ∷ 0 ∷ 1 ∷ 8 ∷ 0 ∷ 1 ∷ 8 ∷ 0 ∷ 1 ∷ 8 ∷ 0 ∷ 1 ∷ 8 ∷ 0 ∷ 1 ∷ 8 ∷ []

-- a screen of 8 by 6 pixels, and a pane of 5 by 4 from (2,1) on; in its store some commands and then the fill, and room for a bitmap at 70 hex
abbrev lent : List (List ℕ) → State
lent list =
    record {
      console = record {
        geometry = record { width = 8; height = 6; depth = 1 };
        count = 1;
        rows = record { left = 2; top = 1; width = 5; height = 4; start = 0; len = 0x80 } ∷ [];
        panes = [];
      };
      screen = blank 12;
      stores = laid (piece 0 (listing (list ++ fill)) ∷ piece 0x40 (bytes triples) ∷ []) (replicate 0x80 0);
    }

-- pixel (u,v) of the screen lies in it
abbrev holds : Scissor → ℕ → ℕ → Bool
holds s u v = leb s.left u && (ltb u (s.left + s.width) && (leb s.top v && ltb v (s.top + s.height)))

-- commands, and a picture of six rows: ones where the scissor that they leave holds a pixel
pub record Shape : Type 0 where
  pub commands : List (List ℕ)
  pub picture : List ℕ

abbrev shape : List (List ℕ) → List ℕ → Shape
shape commands picture = record { commands = commands; picture = picture }

-- the picture of the scissor, and the screen after the fill
pub record Filled : Type 0 where
  pub held : List ℕ
  pub screen : List ℕ

abbrev filled : State → Filled
filled s = record { held = listed 0 6 (λ v. num 16 (λ i. holds (record_of s 0).scissor (15 - i) v)); screen = s.screen }

unfoldable pub fills : List Shape → List Filled
unfolding script
fills [] = []
fills (x ∷ xs) = filled (script (lent x.commands) (on 0 (start 0) ∷ on 0 (run 99) ∷ [])).left ∷ fills xs

abbrev pub pictured : List Shape → List Filled
pictured [] = []
pictured (x ∷ xs) = record { held = x.picture; screen = painted 1 x.picture } ∷ pictured xs

-- no pixel
abbrev none : List ℕ
none = blank 6

-- "it is shown to hold exactly the pane's pixels in bitmap and clip"
abbrev pub shapes : List Shape
shapes =
    shape (def_bitmap the_pane 4 3 1 ∷ [])
    (0b00000000_00000000 ∷
    0b00111110_00000000 ∷
    0b00111110_00000000 ∷
    0b00111110_00000000 ∷
    0b00111110_00000000 ∷
    0b00000000_00000000 ∷ [])
    -- columns 1 to 3, rows 1 to 2
    ∷ shape (def_bitmap the_pane 4 3 1 ∷ def_clip_rect 1 1 3 2 ∷ [])
    (0b00000000_00000000 ∷
    0b00000000_00000000 ∷
    0b00011100_00000000 ∷
    0b00011100_00000000 ∷
    0b00000000_00000000 ∷
    0b00000000_00000000 ∷ [])
    -- the last pixel
    ∷ shape (def_bitmap the_pane 4 3 1 ∷ def_clip_rect 4 3 4 3 ∷ [])
    (0b00000000_00000000 ∷
    0b00000000_00000000 ∷
    0b00000000_00000000 ∷
    0b00000000_00000000 ∷
    0b00000010_00000000 ∷
    0b00000000_00000000 ∷ [])
    -- a maximum below its minimum
    ∷ shape (def_bitmap the_pane 4 3 1 ∷ def_clip_rect 3 0 1 3 ∷ []) none
    ∷ shape (def_bitmap the_pane 4 3 1 ∷ def_clip_rect 0 2 4 1 ∷ []) none
    -- "empty if the active bitmap is in the store or absent"
    ∷ shape (def_bitmap 0x70 4 3 1 ∷ []) none
    ∷ shape [] none
    ∷ []

pub fills_held : fills shapes ≡ pictured shapes
unfolding machine fills
fills_held = refl
