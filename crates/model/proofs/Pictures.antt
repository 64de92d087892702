-- Pictures: a list run on a console with one pane, what the screen shows before and after it, and what the store then holds.
use mathlib.Core.List.{List, [], ◌∷◌, ◌++◌}
use Prim.Native.Nat.{ℕ, zero, suc, ◌+◌, ◌*◌, ◌/◌, ◌%◌}
use lib.IntN.{ℤ, pos}
use lib.ListN.{replicate}
use Rattle.model.specs.Bitmaps.{Geometry, Row}
use Rattle.model.specs.Calls.{State, Request, on, start, run, look}
use Rattle.model.proofs.Listings.{listing}
use Rattle.model.proofs.Scripts.{Piece, piece, laid, Played, script}

-- ## The screen as a picture

-- A row of the screen is written as one number, its words one after the other: the digits are the pixels from left to right, binary at depth 1,
-- in pairs at depth 2, hexadecimal at depth 4, in pairs at depth 8. So many words of such a number, as bytes
abbrev pub row_bytes : ℕ → ℕ → List ℕ
row_bytes zero v = []
row_bytes (suc n) v = row_bytes n (v / 0x10000) ++ (v % 0x100 ∷ v / 0x100 % 0x100 ∷ [])

abbrev pub painted : ℕ → List ℕ → List ℕ
painted words [] = []
painted words (v ∷ vs) = row_bytes words v ++ painted words vs

-- ## Pictures

-- a screen and the one pane on it; what is run, a list at the store's first byte, and other pieces of the store; the screen before it; the calls
-- after start, and their replies; the screen after them, and pieces of the store that are new
pub record Picture : Type 0 where
  pub geometry : Geometry
  pub pane : Row
  pub commands : List (List ℕ)
  pub pieces : List Piece
  pub before : List ℕ
  pub calls : List Request
  pub replies : List (List ℤ)
  pub shows : List ℕ
  pub stored : List Piece

-- the words of a row of the screen
abbrev row_words : Geometry → ℕ
row_words g = (g.width * g.depth + 15) / 16

-- other bytes, before and after the store in its buffer
abbrev margin : List ℕ
margin = 0xEE ∷ 0xEE ∷ []

abbrev store_before : Picture → List ℕ
store_before p = laid p.pieces (laid (piece 0 (listing p.commands) ∷ []) (replicate p.pane.len 0))

abbrev pub lent : Picture → State
lent p =
    record {
      console = record { geometry = p.geometry; count = 1; rows = p.pane ∷ []; panes = [] };
      screen = painted (row_words p.geometry) p.before;
      stores = margin ++ (store_before p ++ margin);
    }

-- replies, screen and stores
pub record Seen : Type 0 where
  pub replies : List (List ℤ)
  pub screen : List ℕ
  pub stores : List ℕ

abbrev seen : Played → Seen
seen p = record { replies = p.told; screen = p.left.screen; stores = p.left.stores }

unfoldable pub outcome : Picture → Seen
unfolding script
outcome p = seen (script (lent p) (on 0 (start 0) ∷ p.calls))

abbrev pub expected : Picture → Seen
expected p =
    record {
      replies = (pos 0 ∷ []) ∷ (pos 0 ∷ []) ∷ p.replies;
      screen = painted (row_words p.geometry) p.shows;
      stores = margin ++ (laid p.stored (store_before p) ++ margin);
    }

unfoldable pub outcomes : List Picture → List Seen
unfolding outcome
outcomes [] = []
outcomes (p ∷ ps) = outcome p ∷ outcomes ps

abbrev pub expectations : List Picture → List Seen
expectations [] = []
expectations (p ∷ ps) = expected p ∷ expectations ps

-- ## Short forms for a picture's parts

abbrev pub screen : ℕ → ℕ → ℕ → Geometry
screen width height depth = record { width = width; height = height; depth = depth }

-- left, top, width and height, and the length of the store
abbrev pub pane_row : ℕ → ℕ → ℕ → ℕ → ℕ → Row
pane_row left top width height len = record { left = left; top = top; width = width; height = height; start = 2; len = len }

-- a list alone in the store, which it leaves as it was, run whole and looked at: the list, the screen before it, the replies, and the screen
-- after it
abbrev pub drawn : Geometry → Row → List (List ℕ) → List ℕ → List (List ℤ) → List ℕ → Picture
drawn g row list before replies shows =
    record {
      geometry = g;
      pane = row;
      commands = list;
      pieces = [];
      before = before;
      calls = on 0 (run 99) ∷ on 0 look ∷ [];
      replies = replies;
      shows = shows;
      stored = [];
    }

-- the same with pieces in the store beside the list, and pieces that it leaves new
abbrev pub storing : List Piece → List Piece → Picture → Picture
storing pieces new p =
    record {
      geometry = p.geometry;
      pane = p.pane;
      commands = p.commands;
      pieces = pieces;
      before = p.before;
      calls = p.calls;
      replies = p.replies;
      shows = p.shows;
      stored = new;
    }

abbrev pub with_pieces : List Piece → Picture → Picture
with_pieces pieces = storing pieces []

-- .. and with other calls
abbrev pub calling : List Request → Picture → Picture
calling calls p =
    record {
      geometry = p.geometry;
      pane = p.pane;
      commands = p.commands;
      pieces = p.pieces;
      before = p.before;
      calls = calls;
      replies = p.replies;
      shows = p.shows;
      stored = p.stored;
    }

abbrev pub blank : ℕ → List ℕ
blank n = replicate n 0

-- so many commands done, so many pixels drawn, and the end reached: pointer, position, pick and trap flag
abbrev pub ended : ℕ → ℕ → ℕ → ℤ → ℤ → ℕ → ℕ → List (List ℤ)
ended n pixels pointer x y pick trap =
    (pos 0 ∷ pos n ∷ pos 2 ∷ pos 0 ∷ pos pixels ∷ []) ∷ (pos 0 ∷ pos 2 ∷ pos 0 ∷ pos pointer ∷ x ∷ y ∷ pos pick ∷ pos trap ∷ []) ∷ []
