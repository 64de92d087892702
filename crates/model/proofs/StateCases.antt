-- What the commands that draw nothing do to a record (01, "One command"): all of them one after the other, then all of them in the opposite order
-- with other values. So each is seen to set its own part, and to keep every other part, set before it in one of the two lists.
use mathlib.Core.Path.{◌≡◌, refl}
use mathlib.Core.Bool.{true, false}
use mathlib.Core.List.{List, [], ◌∷◌, ◌++◌}
use Prim.Native.Nat.{ℕ}
use lib.ListN.{replicate}
use Rattle.model.specs.Record.{Pane}
use Rattle.model.specs.Setup.{pane_at}
use Rattle.model.specs.declared.Bitmap.TheVariants as bitmap
use Rattle.model.specs.declared.Font.TheVariants as font
use Rattle.model.specs.Calls.{State, on, start, run}
use Rattle.model.proofs.Computing.{machine}
use Rattle.model.proofs.Listings.{the_pane, nop, link, call, return, def_bitmap, def_clip_rect, def_colors, def_logical_op, opaque, transparent, def_space}
use Rattle.model.proofs.Listings.{def_char_orient, word_font, byte_font, enter_pick, exit_pick, abs_mov, rel_mov, point, minus, listing}
use Rattle.model.proofs.Scripts.{script, piece, laid}

-- 11 commands; CALL goes to the next one. DEF_CHAR_ORIENT has all its reserved bits set, path 1 and rotation 2
abbrev forwards : List (List ℕ)
forwards =
    call 0x06 ∷ def_bitmap 0xA0 9 2 4 ∷ def_clip_rect 1 0 8 2 ∷ def_colors 0x1111 0x2222 ∷ def_logical_op 0x3333 0xFF17 ∷ opaque 0xC444
    ∷ def_space 5 ∷ (0x4E00 ∷ 0xFDFE ∷ []) ∷ word_font 0x20666 ∷ enter_pick ∷ abs_mov 7 1 ∷ []

-- 15 commands from 42 hex on; POINT sets the pick flag; CALL goes to the RETURN at 92 hex, which goes back to LINK, which goes to the end
abbrev backwards : List (List ℕ)
backwards =
    point 0 0 ∷ rel_mov (minus 10) 0x7FFF ∷ byte_font 0x30AAA ∷ def_char_orient 3 1 ∷ def_space (minus 2) ∷ transparent 0xBBBB ∷ def_logical_op 0xCCCC 9
    ∷ def_colors 0xDDDD 0xEEEE ∷ def_clip_rect 9 2 0 1 ∷ def_bitmap the_pane 15 1 1 ∷ nop ∷ exit_pick ∷ call 0x92 ∷ link 0x94 ∷ return ∷ []

abbrev console : State
console =
    record {
      console = record {
        geometry = record { width = 16; height = 2; depth = 1 };
        count = 1;
        rows = record { left = 0; top = 0; width = 16; height = 2; start = 0; len = 0xB8 } ∷ [];
        panes = [];
      };
      screen = replicate 4 0;
      stores = laid (piece 0 (listing (forwards ++ backwards)) ∷ []) (replicate 0xB8 0);
    }

-- the record after so many commands
unfoldable pub record_after : ℕ → Pane
unfolding script
record_after n = pane_at (script console (on 0 (start 0) ∷ on 0 (run n) ∷ [])).left.console.panes 0

pub after_forwards :
    record_after 11
    ≡ record {
      progress = record { status = 1; fault = 0; pointer = 0x42 };
      position = record { x = 7; y = 1 };
      bitmap = bitmap.Store 0xA0 9 2 4;
      clip = record { xmin = 1; ymin = 0; xmax = 8; ymax = 2 };
      scissor = record { left = 0; top = 0; width = 0; height = 0 };
      pen = record { fore = 0x1111; back = 0x2222; op = 7; mask = 0x3333; pattern = 0xC444; transparent = false };
      text = record { spacing = 5; path = 1; rotation = 2; font = font.Word 0x20666 };
      flags = record { picking = true; pick = false; trap = false; switch = false };
      returns = record { addresses = 6 ∷ replicate 7 0; count = 1 };
    }
unfolding machine record_after
after_forwards = refl

pub after_backwards :
    record_after 26
    ≡ record {
      progress = record { status = 1; fault = 0; pointer = 0x94 };
      position = record { x = 0xFFFD; y = 0x8000 };
      bitmap = bitmap.Pane 15 1 1;
      clip = record { xmin = 0; ymin = 0; xmax = 15; ymax = 1 };
      scissor = record { left = 0; top = 0; width = 16; height = 2 };
      pen = record { fore = 0xDDDD; back = 0xEEEE; op = 9; mask = 0xCCCC; pattern = 0xBBBB; transparent = true };
      text = record { spacing = 0xFFFE; path = 3; rotation = 1; font = font.Byte 0x30AAA };
      flags = record { picking = false; pick = true; trap = false; switch = false };
      returns = record { addresses = 6 ∷ replicate 7 0; count = 1 };
    }
unfolding machine record_after
after_backwards = refl

-- before RETURN took the latest address back, there were two
pub after_two_calls : (record_after 24).returns ≡ record { addresses = 6 ∷ 0x8C ∷ replicate 6 0; count = 2 }
unfolding machine record_after
after_two_calls = refl

-- and DEF_CLIP_RECT had set the clip that DEF_BITMAP set anew
pub after_clip : (record_after 20).clip ≡ record { xmin = 9; ymin = 2; xmax = 0; ymax = 1 }
unfolding machine record_after
after_clip = refl
