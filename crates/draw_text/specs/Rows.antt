-- Rows of a grid as short spans: their pattern is the row's cells.
use Rattle.std.specs.Prelude.{◌≡◌, ℕ, ◌+◌, ◌-◌, ◌*◌, ◌^◌, ◌<◌, ◌≤◌, Bool, true, cond, List, ℤ, ◌+ℤ◌, slice_index}
use Rattle.model.specs.Coordinates.{coord, between, index}
use Rattle.model.specs.Pixels.{changes}
use Rattle.model.specs.Dots.{changes_of}
use Rattle.bitmaps.specs.Areas.{rows_end}
use Rattle.coordinates.specs.Offsets.{directed, unbiased, Between}
use Rattle.coordinates.specs.declared.Edges.{Edges}
use Rattle.canvas.specs.declared.Target.{Target}
use Rattle.canvas.specs.declared.Course.{Course}
use Rattle.stencils.specs.Stencils.{RoomFor}
use Rattle.grids.specs.Grids.{ones_in}
use Rattle.spans.specs.declared.Span.{Span}
use Rattle.spans.specs.Spans.{Met}
use Rattle.spans.specs.Through.{StencilFor}
use Rattle.draw_text.specs.declared.cells.CellStyle.{CellStyle}
use Rattle.draw_text.specs.declared.cells.Grid.{Grid}
use Rattle.draw_text.specs.declared.rows.RowPlan.{RowPlan}
use Rattle.draw_text.specs.Cells.{rows_from, most_columns, most_rows}

-- a target whose pen has a row's cells for its pattern
abbrev pub cell_target : Target → Bool → ℕ → Target
cell_target t transparent cells =
    record {
      area = t.area;
      picking = t.picking;
      clip = t.clip;
      pen = record {
        fore = t.pen.fore;
        back = t.pen.back;
        op = t.pen.op;
        mask = t.pen.mask;
        pattern = cells;
        transparent = transparent;
      };
      truth = t.truth;
    }

-- the span of a grid's first row
pub record FirstSpan (course : Course) (width : ℕ) (s : Span) : Type 0 where
  pub x : unbiased s.x ≡ coord course.from.x
  pub y : unbiased s.y ≡ coord course.from.y
  pub left : s.left ≡ course.heading.left
  pub count : s.count ≡ width
  pub index : s.index ≡ 0
  pub east : s.x < 131072
  pub south : s.y < 131072

-- what the rows of a grid have in common, so many cells wide
pub record Planned (t : Target) (s : CellStyle) (width : ℕ) (p : RowPlan) : Type 0 where
  pub span : FirstSpan s.course width p.span
  pub columns : Between t.clip.xmin t.clip.xmax (unbiased p.span.x) p.span.left p.span.count
      p.edges
  pub some : p.edges.first < p.edges.second
  pub stencil : StencilFor (cell_target t s.transparent 0) p.span p.edges p.stencil

-- where row j lies along y
abbrev pub row_y : Course → ℕ → ℤ
row_y course j = coord course.from.y +ℤ directed course.heading.up j

-- the rows from the first edge to below the second, some at least, lie in the clip's rows
pub record RowsPlanned (t : Target) (s : CellStyle) (p : RowPlan) (f : Edges) : Type 0 where
  pub planned : Planned t s p.span.count p
  pub width : p.span.count ≤ most_columns
  pub east : t.clip.xmax < t.area.surface.width
  pub inside : (j : ℕ) → f.first ≤ j → j < f.second
      → between t.clip.ymin t.clip.ymax (row_y s.course j) ≡ true
  pub some : f.first < f.second
  pub last : f.second ≤ most_rows

-- ## How many cells are visible

-- some columns and rows of a grid
pub record SomeCells (e f : Edges) : Type 0 where
  pub columns : e.first < e.second
  pub width : e.second ≤ most_columns
  pub rows : f.first < f.second
  pub height : f.second ≤ most_rows

-- .. their 1s, or all of them where bits of 0 are drawn too
abbrev pub seen_in : Bool → List ℕ → Edges → Edges → ℕ
seen_in transparent cells e f =
    cond transparent (ones_in cells e.first (e.second - e.first) f.first (f.second - f.first))
    ((e.second - e.first) * (f.second - f.first))

-- ## Rows drawn

-- rows from left to right
pub record RowsMet (left : Bool) (cells met : List ℕ) : Type 0 where
  pub row : (j : ℕ) → j < most_rows → Met left (slice_index cells j) (slice_index met j)

-- the byte at which the bitmap's row begins in which row j lies
abbrev pub row_start : Target → Course → ℕ → ℕ
row_start t course j =
    t.area.surface.base + 2 * (t.area.surface.words * (t.area.surface.top + index (row_y course j)))

-- row j lies in the clip's rows, and these in a bitmap whose rows end within 2^32 bytes
pub record RowInside (t : Target) (course : Course) (j : ℕ) : Type 0 where
  pub few : j < most_rows
  pub inside : between t.clip.ymin t.clip.ymax (row_y course j) ≡ true
  pub south : t.clip.ymax < t.area.surface.height
  pub some : 0 < t.area.surface.words
  pub near : rows_end t.area.surface ≤ 2 ^ 32

-- every row has room in a buffer of n bytes
pub record RowsRoomy (t : Target) (s : CellStyle) (p : RowPlan) (f : Edges) (n : ℕ) : Type 0 where
  pub room : (j : ℕ) → f.first ≤ j → j < f.second → RoomFor p.stencil (row_start t s.course j) n

-- rows that were met so are drawn, whatever grid they are of
pub record RowsDrawn (t : Target) (s : CellStyle) (p : RowPlan) (f : Edges) (met old new : List ℕ) : Type 0 where
  pub drawn : (g : Grid) → g.width ≡ p.span.count → RowsMet p.span.left g.cells met
      → new ≡ changes t.area.surface (changes_of t.area.surface t.clip t.pen
      (rows_from t.pen s g f.first (f.second - f.first))) old
