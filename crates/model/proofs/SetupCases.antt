-- Set-up's refusals 6 to 11 and their order (01, "Calls and their refusals, in order"), as one table; the numbers follow from the sentences of the
-- paper. Each row changes one thing, or two for the order, of a table of three panes that fill a screen.
use mathlib.Core.Path.{◌≡◌, refl}
use mathlib.Core.List.{List, [], ◌∷◌, ◌++◌}
use Prim.Native.Nat.{ℕ}
use lib.ListN.{length, replicate}
use Rattle.model.specs.Bitmaps.{Geometry, Row}
use Rattle.model.specs.Setup.{checks}
use Rattle.model.proofs.Computing.{machine}

-- geometry, how many of the rows are the table, the lengths of the screen and the stores buffer, and the refusal; 0 for none
pub record Case : Type 0 where
  pub refusal : ℕ
  pub geometry : Geometry
  pub count : ℕ
  pub rows : List Row
  pub screen : ℕ
  pub stores : ℕ

abbrev pub replied : List Case → List ℕ
replied [] = []
replied (c ∷ cs) = checks c.geometry c.count c.rows c.screen c.stores ∷ replied cs

abbrev pub due : List Case → List ℕ
due [] = []
due (c ∷ cs) = c.refusal ∷ due cs

-- ## Rows of the table below

-- width, height, depth
abbrev size : ℕ → ℕ → ℕ → Geometry
size width height depth = record { width = width; height = height; depth = depth }

-- left, top, width, height, store start, store length
abbrev row : ℕ → ℕ → ℕ → ℕ → ℕ → ℕ → Row
row left top width height start len = record { left = left; top = top; width = width; height = height; start = start; len = len }

-- on a screen of 20 by 10 pixels of depth 2, whose rows take 60 bytes: a pane on the left, two on the right; stores of 10, 6 and 0 bytes
abbrev one : Row
one = row 0 0 7 10 0 10

abbrev two : Row
two = row 7 0 13 4 10 6

abbrev three : Row
three = row 7 4 13 6 16 0

abbrev all : List Row
all = one ∷ two ∷ three ∷ []

-- refusal, geometry, rows, lengths of the two buffers
abbrev case : ℕ → Geometry → List Row → ℕ → ℕ → Case
case n g rows screen stores = record { refusal = n; geometry = g; count = length rows; rows = rows; screen = screen; stores = stores }

abbrev panes : ℕ → List Row → Case
panes n rows = case n (size 20 10 2) rows 60 16

abbrev counting : ℕ → ℕ → List Row → Case
counting n count rows = record { refusal = n; geometry = size 20 10 2; count = count; rows = rows; screen = 60; stores = 16 }

abbrev pub table : List Case
table =
    -- all is well; longer buffers do no harm
    panes 0 all
    ∷ case 0 (size 20 10 2) all 61 17
    -- ## 6: geometry or row count out of range
    -- width, height
    ∷ case 6 (size 0 10 2) all 60 16
    ∷ case 6 (size 4097 10 2) all 20000 16
    ∷ case 6 (size 20 0 2) all 60 16
    ∷ case 6 (size 20 4097 2) all 30000 16
    ∷ case 0 (size 4096 4096 8) all 16777216 16
    ∷ case 0 (size 1 1 1) (row 0 0 1 1 0 0 ∷ []) 2 0
    -- depth
    ∷ case 6 (size 20 10 0) all 60 16
    ∷ case 6 (size 20 10 3) all 100 16
    ∷ case 6 (size 20 10 16) all 400 16
    ∷ case 0 (size 20 10 1) all 40 16
    ∷ case 0 (size 20 10 4) all 100 16
    ∷ case 0 (size 20 10 8) all 200 16
    -- row count: none, nine, eight
    ∷ panes 6 []
    ∷ counting 6 9 (all ++ replicate 6 (row 0 0 0 0 0 0))
    ∷ panes 0 (row 0 0 1 1 0 2 ∷ row 1 0 1 1 2 2 ∷ row 2 0 1 1 4 2 ∷ row 3 0 1 1 6 2 ∷ row 4 0 1 1 8 2 ∷ row 5 0 1 1 10 2 ∷ row 6 0 1 1 12 2 ∷ row 7 0 1 1 14 2
    ∷ [])
    -- rows at or above the count are not looked at
    ∷ counting 0 2 (one ∷ two ∷ row 0 0 0 0 0 1 ∷ one ∷ [])
    -- ## 7: screen buffer shorter than its rows
    ∷ case 7 (size 20 10 2) all 59 16
    ∷ case 7 (size 17 10 1) (row 0 0 17 10 0 16 ∷ []) 39 16
    ∷ case 0 (size 17 10 1) (row 0 0 17 10 0 16 ∷ []) 40 16
    -- ## 8: a rectangle empty or beyond the screen
    ∷ panes 8 (one ∷ row 7 0 0 4 10 6 ∷ three ∷ [])
    ∷ panes 8 (one ∷ row 7 0 13 0 10 6 ∷ three ∷ [])
    ∷ panes 8 (one ∷ row 7 0 14 4 10 6 ∷ three ∷ [])
    ∷ panes 8 (one ∷ two ∷ row 7 4 13 7 16 0 ∷ [])
    ∷ panes 8 (row 0 1 7 10 0 10 ∷ two ∷ three ∷ [])
    -- sums don't wrap
    ∷ panes 8 (one ∷ two ∷ row 0xFFFFFFFF 4 1 6 16 0 ∷ [])
    ∷ panes 8 (one ∷ two ∷ row 7 0xFFFFFFFF 13 1 16 0 ∷ [])
    -- ## 9: a store of odd length, above 2,097,152 bytes or beyond its buffer
    ∷ panes 9 (row 0 0 7 10 0 9 ∷ two ∷ three ∷ [])
    ∷ case 9 (size 20 10 2) (row 0 0 20 10 0 2097154 ∷ []) 60 3000000
    ∷ case 0 (size 20 10 2) (row 0 0 20 10 7 2097152 ∷ []) 60 3000000
    ∷ panes 9 (one ∷ row 7 0 13 4 10 8 ∷ three ∷ [])
    ∷ case 9 (size 20 10 2) all 60 15
    ∷ panes 9 (one ∷ two ∷ row 7 4 13 6 0xFFFFFFFE 2 ∷ [])
    -- an empty store past its buffer's end; at the end it is well; a store may begin at an odd byte
    ∷ panes 9 (one ∷ two ∷ row 7 4 13 6 17 0 ∷ [])
    ∷ case 0 (size 20 10 2) (row 0 0 7 10 1 10 ∷ row 7 0 13 4 11 6 ∷ row 7 4 13 6 17 0 ∷ []) 60 17
    -- ## 10: two rectangles share a pixel
    -- one column, one row, one corner; the first and the last pane; one within another; the same
    ∷ panes 10 (one ∷ row 6 0 13 4 10 6 ∷ three ∷ [])
    ∷ panes 10 (one ∷ two ∷ row 7 3 13 6 16 0 ∷ [])
    ∷ panes 10 (one ∷ row 6 9 1 1 10 6 ∷ three ∷ [])
    ∷ panes 10 (one ∷ two ∷ row 6 4 13 6 16 0 ∷ [])
    ∷ panes 10 (row 8 5 2 2 0 10 ∷ two ∷ three ∷ [])
    ∷ panes 10 (one ∷ three ∷ three ∷ [])
    -- the last two of eight
    ∷ panes 10 (row 0 0 1 1 0 2 ∷ row 1 0 1 1 2 2 ∷ row 2 0 1 1 4 2 ∷ row 3 0 1 1 6 2 ∷ row 4 0 1 1 8 2 ∷ row 5 0 1 1 10 2 ∷ row 6 0 2 1 12 2 ∷ row 7 0 1 1 14 2
    ∷ [])
    -- the same columns in other rows
    ∷ panes 0 (row 7 0 13 4 0 10 ∷ row 7 4 13 6 10 6 ∷ [])
    -- ## 11: two stores share a byte
    ∷ panes 11 (one ∷ row 7 0 13 4 9 6 ∷ three ∷ [])
    ∷ panes 11 (row 0 0 7 10 4 10 ∷ row 7 0 13 4 0 6 ∷ three ∷ [])
    ∷ panes 11 (one ∷ two ∷ row 7 4 13 6 2 2 ∷ [])
    ∷ panes 11 (one ∷ two ∷ row 7 4 13 6 14 2 ∷ [])
    -- an empty store shares nothing
    ∷ panes 0 (one ∷ two ∷ row 7 4 13 6 4 0 ∷ [])
    ∷ panes 0 (row 0 0 7 10 4 0 ∷ row 7 0 13 4 0 6 ∷ three ∷ [])
    -- ## The order, over all rows
    -- 6 and 7; 7 and 8; 8 and 9, the 9 in an earlier row; 9 and 10; 10 and 11
    ∷ case 6 (size 20 10 3) all 0 16
    ∷ case 7 (size 20 10 2) (row 0 0 7 0 0 10 ∷ two ∷ three ∷ []) 59 16
    ∷ panes 8 (row 0 0 7 10 0 9 ∷ two ∷ row 7 4 13 7 16 0 ∷ [])
    ∷ panes 9 (one ∷ row 6 0 13 4 10 6 ∷ row 7 4 13 6 16 1 ∷ [])
    ∷ panes 10 (one ∷ row 7 0 13 4 9 6 ∷ row 7 3 13 6 16 0 ∷ [])
    ∷ []

pub setup_cases : replied table ≡ due table
unfolding machine
setup_cases = refl
