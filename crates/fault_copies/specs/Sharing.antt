-- A block of one area that shares no byte with another area.
use Rattle.std.specs.Prelude.{◌≡◌, ◌⊎◌, ℕ, ◌+◌, ◌*◌, ◌≤◌, ◌<◌}
use Rattle.model.specs.declared.Block.{Block}
use Rattle.model.specs.declared.Surface.{Surface}
use Rattle.model.specs.Bitmaps.{word_of}
use Rattle.bitmaps.specs.declared.areas.Area.{Area}
use Rattle.bitmaps.specs.Areas.{rows_end}

-- the bytes of row j of a block: from the word of its first pixel on, to the end of the word of its last
abbrev pub row_from : Surface → Block → ℕ → ℕ
row_from s b j = s.base + 2 * ((s.top + (b.y + j)) * s.words + word_of s.bits (s.left + b.x))

abbrev pub row_to : Surface → Block → ℕ → ℕ
row_to s b j = s.base + 2 * ((s.top + (b.y + j)) * s.words + (word_of s.bits (s.left + (b.x + b.dx)) + 1))

-- a block of the source shares no byte with the target, if that has any: the source lies in the other buffer, or
-- the words of each row of the block end before the target's rows, or begin behind them
pub record Unshared (target source : Area) (b : Block) : Type 0 where
  pub rows : source.onscreen ≡ target.onscreen → target.surface.base < rows_end target.surface
      → (j : ℕ) → j ≤ b.dy
      → (row_to source.surface b j ≤ target.surface.base)
      ⊎ (rows_end target.surface ≤ row_from source.surface b j)
