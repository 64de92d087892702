-- What the functions that draw in one buffer ask for and draw, beside model's definitions.
use Rattle.std.specs.Prelude.{ℕ, ◌+◌, ◌*◌, ◌≤◌, ◌<◌, ◌≡◌, ◌≢◌, Bool, true, cond, List, [], ◌∷◌, map, length}
use Rattle.model.specs.Bitmaps.{Depth}
use Rattle.model.specs.Coordinates.{Place, at, place}
use Rattle.model.specs.Dots.{Dot, dot}
use Rattle.model.specs.Circles.{circle_dot, circle}
use Rattle.model.specs.declared.Point.{Point}
use Rattle.model.specs.declared.Source.TheVariants as source
use Rattle.bitmaps.specs.Areas.{rows_end}
use Rattle.coordinates.specs.Offsets.{unbiased}
use Rattle.canvas.specs.Canvas.{Canvas, canvas, Painted, count_end}
use Rattle.canvas.specs.declared.Offset.{Offset}
use Rattle.canvas.specs.declared.Target.{Target}
use Rattle.draw_circles.specs.declared.sheets.Sheet.{Sheet}
use Rattle.draw_circles.specs.Sides.{SidesIn}
use Rattle.draw_circles.specs.Tables.{StampsFor}

-- ## What is asked for

-- the surface lies in a buffer of this length, the limits in the surface, and there are so many stamps
pub record SheetReady (s : Sheet) (buffer stamps : ℕ) : Type 0 where
  pub depth : Depth s.surface.bits
  pub right : (s.surface.left + s.surface.width) * s.surface.bits ≤ 16 * s.surface.words
  pub small : s.surface.left + s.surface.width ≤ 65536
  pub long : rows_end s.surface ≤ buffer
  pub east : s.clip.xmax < s.surface.width
  pub south : s.clip.ymax < s.surface.height
  pub table : stamps ≡ 64

-- (x,y), both kept 65,536 larger, lies in the limits
pub record InLimits (s : Sheet) (x y : ℕ) : Type 0 where
  pub west : s.clip.xmin + 65536 ≤ x
  pub east : x ≤ s.clip.xmax + 65536
  pub north : s.clip.ymin + 65536 ≤ y
  pub south : y ≤ s.clip.ymax + 65536

-- the columns and the rows at a distance from the centre lie in the limits
pub record Enclosed (s : Sheet) (k : ℕ) : Type 0 where
  pub columns : SidesIn s.clip.xmin s.clip.xmax s.centre.x k
  pub rows : SidesIn s.clip.ymin s.clip.ymax s.centre.y k

-- an offset that can be drawn at, room in the count for so many dots more, and what the sheet says of the offset
pub record Room (s : Sheet) (o : Offset) (hits more : ℕ) : Type 0 where
  pub x : o.x ≤ 32768
  pub y : o.y ≤ 32768
  pub count : hits + more ≤ count_end
  pub inside : s.inside ≡ true → Enclosed s o.x × Enclosed s o.y

-- a radius above 0, and what the sheet says of a circle of that radius
pub record Round (s : Sheet) (r : ℕ) : Type 0 where
  pub some : r ≢ 0
  pub small : r ≤ 32768
  pub inside : s.inside ≡ true → (k : ℕ) → k ≤ r → Enclosed s k

-- ## What is drawn

-- the places from the centre as dots
abbrev pub dots_at : Target → Point → List Place → List Dot
dots_at t centre l = map (circle_dot t.pen (place centre)) l

abbrev pub dots_on : Sheet → List Place → Target → List Dot
dots_on s l t = dots_at t s.centre l

abbrev pub circle_on : Sheet → ℕ → Target → List Dot
circle_on s r t = (circle t.pen s.centre r).dots

-- the foreground at (x,y), both kept 65,536 larger, or nothing
abbrev pub dot_if : Bool → ℕ → ℕ → Target → List Dot
dot_if on x y t = cond on (dot (at (unbiased x) (unbiased y)) (source.Colour t.pen.fore) ∷ []) []

-- a sheet and its stamps are a target's
pub record SheetOf (t : Target) (s : Sheet) (stamps : List ℕ) : Type 0 where
  pub surface : t.area.surface ≡ s.surface
  pub clip : t.clip ≡ s.clip
  pub table : StampsFor t stamps

-- a target's buffer and the other one, as the screen and the store
abbrev pub on_sheet : Target → List ℕ → List ℕ → ℕ → Canvas
on_sheet t other buffer hits = cond t.area.onscreen (canvas buffer other hits) (canvas other buffer hits)

-- dots drawn on a sheet: in the buffer of every target that the sheet is of, whatever is in the other buffer. At most
-- so many were visible
pub record Dabbed (s : Sheet) (stamps : List ℕ) (dots : Target → List Dot) (most : ℕ) (old new : List ℕ)
    (before after : ℕ) : Type 0 where
  pub drawn : (t : Target) (other : List ℕ) → SheetOf t s stamps
      → Painted t (dots t) (on_sheet t other old before) (on_sheet t other new after)
  pub length : length new ≡ length old
  pub few : after ≤ before + most
