-- A row of a transfer: where its bits come from and go to, and what copying them leaves in both buffers.
use Rattle.std.specs.Prelude.{◌≡◌, ℕ, ◌+◌, ◌*◌, ◌^◌, ◌<◌, Bool, cond, List}
use Rattle.model.specs.declared.Surface.{Surface}
use Rattle.strips.specs.Stretches.{Stretched}
use Rattle.row_copies.specs.Rows.{SoundOperator, row_copy_of, RowsFit, Slidable, copied}
use Rattle.row_copies.specs.declared.operators.Operator.{Operator}
use Rattle.row_copies.specs.declared.rows.RowCopy.{RowCopy}
use Rattle.draw_copies.specs.declared.Start.{Start}
use Rattle.draw_copies.specs.declared.Transfer.{Transfer}

-- ## Where a row's bits lie

-- the byte at which row y of a surface begins
abbrev pub row_start : Surface → ℕ → ℕ
row_start u y = u.base + 2 * (u.words * (u.top + y))

-- where pixel (x,y) of a surface begins: the first byte of its row, and its first bit from the left of the row
abbrev pub start_of : Surface → ℕ → ℕ → Start
start_of u x y = record { row = row_start u y; bit = (u.left + x) * u.bits }

-- .. and the numbers on the way fit the machine's
pub record Starts (u : Surface) (x y : ℕ) : Type 0 where
  pub down : u.top + y < 2 ^ 64
  pub row : row_start u y < 2 ^ 64
  pub right : u.left + x < 2 ^ 64
  pub bit : (u.left + x) * u.bits < 2 ^ 64

-- where the bits of row j of a transfer come from and go to
abbrev pub row_of : Surface → Transfer → ℕ → RowCopy
row_of u m j =
    row_copy_of u m.source.surface m.patch.x (m.patch.y + j) m.patch.sx (m.patch.sy + j) m.patch.wide

-- .. and the numbers on the way fit the machine's
pub record RowStarts (u : Surface) (m : Transfer) (j : ℕ) : Type 0 where
  pub down : m.patch.y + j < 2 ^ 64
  pub target : Starts u m.patch.x (m.patch.y + j)
  pub up : m.patch.sy + j < 2 ^ 64
  pub source : Starts m.source.surface m.patch.sx (m.patch.sy + j)
  pub count : m.patch.wide * u.bits < 2 ^ 64

-- ## In both buffers

-- the bits lie in the buffers that they come from and go to, within one buffer in one row or apart; and where the
-- operator is called plain, it is
pub record BitsFit (onto from : Bool) (c : RowCopy) (x : Operator) (screen store : List ℕ) : Type 0 where
  pub room : RowsFit c (cond onto screen store) (cond from screen store)
  pub clear : onto ≡ from → Slidable c
  pub sound : SoundOperator x

-- the bits are copied into one buffer, and the other is kept
pub record BitsCopied (onto from : Bool) (c : RowCopy) (x : Operator) (screen store screen' store' : List ℕ)
    : Type 0 where
  pub target : Stretched (copied x c (cond from screen store)) c.row c.to (c.to + c.count)
      (cond onto screen store) (cond onto screen' store')
  pub other : cond onto store' screen' ≡ cond onto store screen
