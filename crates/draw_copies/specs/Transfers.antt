-- A copy as the code goes about it: cropped to the clip, then row by row, each row's values read from the buffer as
-- it is then.
use Rattle.std.specs.Prelude.{◌≡◌, ◌⊎◌, ℕ, ◌+◌, ◌<◌, ◌≤◌, false, cond, List, ℤ, pos, ◌+ℤ◌}
use Rattle.model.specs.declared.Block.{Block}
use Rattle.model.specs.declared.Clip.{Clip}
use Rattle.model.specs.declared.Point.{Point}
use Rattle.model.specs.declared.Source.TheVariants.{Copied}
use Rattle.model.specs.Coordinates.{at, between, coord}
use Rattle.model.specs.Bitmaps.{pixels}
use Rattle.model.specs.Ranges.{listed}
use Rattle.model.specs.Dots.{Dot, dot}
use Rattle.model.specs.Copies.{rectangle_of, block_bad}
use Rattle.bitmaps.specs.declared.areas.Area.{Area}
use Rattle.bitmaps.specs.Areas.{Readable}
use Rattle.canvas.specs.Canvas.{Canvas, painted_all}
use Rattle.canvas.specs.Targets.{Ready, InClip}
use Rattle.canvas.specs.declared.Target.{Target}
use Rattle.fault_copies.specs.Sharing.{Unshared}
use Rattle.row_copies.specs.Rows.{OperatorOf, Slidable}
use Rattle.draw_copies.specs.Rows.{row_of}
use Rattle.draw_copies.specs.Steps.{steps, reversed_if}
use Rattle.draw_copies.specs.declared.Extent.{Extent}
use Rattle.draw_copies.specs.declared.Patch.{Patch}
use Rattle.draw_copies.specs.declared.Transfer.{Transfer}

-- ## Cropped to the clip

-- of n columns or rows, the first at z, the extent's are those from lo to hi
pub record Cropped (lo hi : ℕ) (z : ℤ) (n : ℕ) (s : Extent) : Type 0 where
  pub most : s.skip + s.count ≤ n
  pub before : (i : ℕ) → i < s.skip → between lo hi (z +ℤ pos i) ≡ false
  pub behind : (i : ℕ) → s.skip + s.count ≤ i → i < n → between lo hi (z +ℤ pos i) ≡ false
  pub is : (i : ℕ) → i < s.count → z +ℤ pos (s.skip + i) ≡ pos (s.at + i)
  pub inside : (i : ℕ) → i < s.count → (lo ≤ s.at + i) × (s.at + i ≤ hi)
  pub small : s.at + s.count ≤ 65536

-- the patch of a block's visible columns and rows
abbrev pub patch_of : Block → Extent → Extent → Patch
patch_of b across down =
    record {
      sx = b.x + across.skip;
      sy = b.y + down.skip;
      x = across.at;
      y = down.at;
      wide = across.count;
      high = down.count;
    }

-- the patch of a block that is copied to a position
pub record Patched (clip : Clip) (from : Point) (b : Block) (p : Patch) : Type 0 where
  pub across : Extent
  pub down : Extent
  pub columns : Cropped clip.xmin clip.xmax (coord from.x) (b.dx + 1) across
  pub rows : Cropped clip.ymin clip.ymax (coord from.y) (b.dy + 1) down
  pub is : p ≡ patch_of b across down

-- ## Row by row

-- the buffer in which an area lies
abbrev pub buffer_of : Area → Canvas → List ℕ
buffer_of a c = cond a.onscreen c.screen c.store

-- column i and row j of a patch, its value as a reader of the source has it
abbrev pub patch_dot : (ℕ → ℕ → ℕ) → Patch → ℕ → ℕ → Dot
patch_dot see p j i = dot (at (pos (p.x + i)) (pos (p.y + j))) (Copied (see (p.sx + i) (p.sy + j)))

-- row j of a transfer, all its values read from the source as it is before the row is drawn
abbrev pub moved_dots : Transfer → ℕ → List ℕ → List Dot
moved_dots m j buffer = listed 0 m.patch.wide (patch_dot (pixels m.source.surface buffer) m.patch j)

unfoldable pub moved_row : Target → Transfer → ℕ → Canvas → Canvas
moved_row t m j c = painted_all t (moved_dots m j (buffer_of m.source c)) c

-- all rows, from the top or from the bottom
unfoldable pub moved_all : Target → Transfer → Canvas → Canvas
moved_all t m c = steps (λ k. moved_row t m (reversed_if m.up m.patch.high k)) m.patch.high c

-- ## What is asked

-- in one buffer, a row of a transfer and its source are one row, or apart
abbrev pub SlidableRows : Target → Transfer → Type 0
SlidableRows t m =
    t.area.onscreen ≡ m.source.onscreen → 0 < m.patch.wide → (j : ℕ) → j < m.patch.high
    → Slidable (row_of t.area.surface m j)

-- a transfer whose source lies in its area and has the target's depth, whose target lies in the clip, and whose
-- operator is the pen's, for buffers of these lengths
pub record Movable (t : Target) (m : Transfer) (screen store : ℕ) : Type 0 where
  pub ready : Ready t screen store
  pub readable : Readable m.source.surface (cond m.source.onscreen screen store)
  pub east : m.patch.sx + m.patch.wide ≤ m.source.surface.width
  pub south : m.patch.sy + m.patch.high ≤ m.source.surface.height
  pub shown : (i j : ℕ) → i < m.patch.wide → j < m.patch.high → InClip t (m.patch.x + i) (m.patch.y + j)
  pub wide : m.patch.x + m.patch.wide ≤ 65536
  pub high : m.patch.y + m.patch.high ≤ 65536
  pub tall : m.patch.sy + m.patch.high ≤ 65536
  pub depth : m.source.surface.bits ≡ t.area.surface.bits
  pub operator : OperatorOf t.pen.op t.pen.mask m.operator
  pub clear : SlidableRows t m

-- what a copy from another bitmap asks: the source can be read and has the target's depth, and the block lies in it
-- and shares no byte with the target
pub record Copyable (target source : Area) (b : Block) (screen store : ℕ) : Type 0 where
  pub readable : Readable source.surface (cond source.onscreen screen store)
  pub within : block_bad source.surface (rectangle_of b) ≡ false
  pub unshared : Unshared target source b
  pub depth : source.surface.bits ≡ target.surface.bits

-- what a copy asks of its source: the active bitmap with the block in it, or another one that can be copied from
abbrev pub CopySource : Area → Area → Block → ℕ → ℕ → Type 0
CopySource target source b screen store =
    ((source ≡ target) × (block_bad target.surface (rectangle_of b) ≡ false)) ⊎ Copyable target source b screen store
