-- How many parameter words a command has (003, 2.10.1 to 2.10.33), and the four that are a source rectangle.
use Rattle.std.specs.Prelude.{ℕ, ◌+◌, List}
use Rattle.model.specs.declared.Block.{Block}
use Rattle.model.specs.Commands.{block_of, parameter}
use Rattle.model.specs.declared.Opcode.{Opcode}
use Rattle.model.specs.declared.Opcode.TheVariants as opcode

abbrev pub word_count : Opcode → ℕ
word_count opcode.Link = 2
word_count opcode.Nop = 0
word_count (opcode.DefTexture t) = 1
word_count (opcode.DefCharSet t) = 2
word_count opcode.Call = 2
word_count opcode.Return = 0
word_count opcode.DefBitmap = 5
word_count opcode.DefColors = 2
word_count opcode.DefLogicalOp = 2
word_count opcode.EnterPick = 0
word_count opcode.ExitPick = 0
word_count opcode.DefClipRect = 4
word_count opcode.DefSpace = 1
word_count opcode.DefCharOrient = 1
word_count opcode.AbsMov = 2
word_count opcode.RelMov = 2
word_count opcode.Point = 2
word_count opcode.Line = 2
word_count opcode.Rect = 2
word_count opcode.BitBlt = 4
word_count opcode.Polyline = 3
word_count opcode.Circle = 1
word_count (opcode.Char t) = 3
word_count opcode.BitBltM = 8
word_count opcode.ScanLines = 3

-- the source rectangle of a copy at an address: its words from parameter word i on
abbrev pub block_at : List ℕ → ℕ → ℕ → Block
block_at s at i = block_of (parameter s at i) (parameter s at (i + 1)) (parameter s at (i + 2)) (parameter s at (i + 3))
