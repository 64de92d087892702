-- Cells as dots: rotation as a course with a choice of axis, and all cells of a descriptor. A grid: the same cells as
-- rows along x, whatever the rotation, a word each.
use Rattle.std.specs.Prelude.{◌≡◌, ℕ, ◌+◌, ◌-◌, ◌*◌, ◌<◌, ◌≤◌, Bool, cond, ◌||◌, ◌==◌, nat_lt}
use Rattle.std.specs.Prelude.{List, length, slice_index}
use Rattle.model.specs.Ranges.{listed, joined}
use Rattle.model.specs.Words.{bit, word_at}
use Rattle.model.specs.declared.Point.{Point}
use Rattle.model.specs.declared.Pen.{Pen}
use Rattle.model.specs.Pixels.{pen_source}
use Rattle.model.specs.Dots.{Dot, dot}
use Rattle.model.specs.Glyphs.{height_of, width_of}
use Rattle.canvas.specs.declared.Target.{Target}
use Rattle.canvas.specs.declared.Offset.{Offset}
use Rattle.canvas.specs.Canvas.{count_end, Reach}
use Rattle.canvas.specs.Targets.{Ready, place_on}
use Rattle.fault_text.specs.Reading.{descriptor_bytes}
use Rattle.draw_text.specs.declared.cells.CellStyle.{CellStyle}
use Rattle.draw_text.specs.declared.cells.CellRow.{CellRow}
use Rattle.draw_text.specs.declared.cells.Grid.{Grid}

-- how cells lie at a rotation: to the left from 180 on, up at 90 and 180, rows along y at 90 and 270
abbrev pub style_of : ℕ → Point → Bool → CellStyle
style_of rotation from transparent =
    record {
      course = record {
        from = from;
        heading = record { left = nat_lt 1 rotation; up = rotation == 1 || (rotation == 2) };
      };
      sideways = rotation == 1 || nat_lt 2 rotation;
      transparent = transparent;
    }

-- how far cell (i,j) lies from the position
abbrev pub cell_offset : Bool → ℕ → ℕ → Offset
cell_offset sideways i j = record { x = cond sideways j i; y = cond sideways i j }

-- cell (i,j) of a character, its rows so many cells wide and row j these bits: "Bit width−1 is leftmost"
abbrev pub stored_dot : Pen → CellStyle → ℕ → ℕ → ℕ → ℕ → Dot
stored_dot pen s width bits i j =
    dot (place_on s.course (cell_offset s.sideways i j)) (pen_source pen s.transparent (bit bits (width - 1 - i)))

-- row j, and all rows of the character whose descriptor stands at a and begins with the word `head`
abbrev pub stored_row : Pen → CellStyle → ℕ → ℕ → ℕ → List Dot
stored_row pen s width bits j = listed 0 width (λ i. stored_dot pen s width bits i j)

abbrev pub cells : Pen → CellStyle → List ℕ → ℕ → ℕ → List Dot
cells pen s store a head =
    joined 0 (height_of head) (λ j. stored_row pen s (width_of head) (word_at store (a + 2 + 2 * j)) j)

-- a character has at most 16 rows of 16 cells
abbrev pub most_rows : ℕ
most_rows = 16

abbrev pub most_columns : ℕ
most_columns = 16

abbrev pub most_cells : ℕ
most_cells = most_rows * most_columns

-- the descriptor at an address lies in the store, beside the bitmap that is drawn on
abbrev pub DescriptorIn : Target → List ℕ → ℕ → Type 0
DescriptorIn t store a = Reach t (length store) a (descriptor_bytes (word_at store a))

-- what a character needs whose descriptor stands at a and begins with this word
pub record GlyphReady (t : Target) (screen : ℕ) (store : List ℕ) (a head hits : ℕ) : Type 0 where
  pub target : Ready t screen (length store)
  pub first : head ≡ word_at store a
  pub reach : DescriptorIn t store a
  pub few : hits + most_cells < count_end

-- ## Rows along x

-- cell i of a row, and all its cells
abbrev pub cell_dot : Pen → CellStyle → CellRow → ℕ → Dot
cell_dot pen s r i =
    dot (place_on s.course (record { x = i; y = r.number }))
    (pen_source pen s.transparent (bit r.cells (15 - i)))

abbrev pub row_dots : Pen → CellStyle → CellRow → List Dot
row_dots pen s r = listed 0 r.width (cell_dot pen s r)

-- row j of a grid, n rows from row i on, and all of them
abbrev pub grid_row : Grid → ℕ → CellRow
grid_row g j = record { number = j; width = g.width; cells = slice_index g.cells j }

abbrev pub rows_from : Pen → CellStyle → Grid → ℕ → ℕ → List Dot
rows_from pen s g i n = joined i n (λ j. row_dots pen s (grid_row g j))

abbrev pub grid_dots : Pen → CellStyle → Grid → List Dot
grid_dots pen s g = rows_from pen s g 0 g.height

-- a row is one of so many, and has no more cells; and so for all rows of a grid
pub record RowFits (r : CellRow) : Type 0 where
  pub number : r.number < most_rows
  pub width : r.width ≤ most_columns

pub record GridFits (g : Grid) : Type 0 where
  pub width : g.width ≤ most_columns
  pub height : g.height ≤ most_rows

-- ## The grid of a character

-- the cells of a descriptor's row, the leftmost in bit 15, and of all its rows
pub record CellsOf (word width cells : ℕ) : Type 0 where
  pub bits : (i : ℕ) → i < width → bit cells (15 - i) ≡ bit word (width - 1 - i)

pub record StoredCells (store : List ℕ) (a width height : ℕ) (cells : List ℕ) : Type 0 where
  pub row : (j : ℕ) → j < height → CellsOf (word_at store (a + 2 + 2 * j)) width (slice_index cells j)

-- cell (i,j) of the character is the grid's at the same offset from the position
pub record GridOf (store : List ℕ) (sideways : Bool) (a head : ℕ) (g : Grid) : Type 0 where
  pub width : g.width ≡ cond sideways (height_of head) (width_of head)
  pub height : g.height ≡ cond sideways (width_of head) (height_of head)
  pub cells : (i j : ℕ) → i < width_of head → j < height_of head
      → bit (slice_index g.cells (cell_offset sideways i j).y) (15 - (cell_offset sideways i j).x)
      ≡ bit (word_at store (a + 2 + 2 * j)) (width_of head - 1 - i)
