-- What a target promises: its area lies in its buffer, its clip in the area, and the table is the operation's.
-- And the target of a pane's drawing commands.
use Rattle.std.specs.Prelude.{◌≡◌, true, false, cond, eqb, ℤ, ℕ, ◌+◌, ◌-◌, ◌*◌, ◌^◌, ◌≤◌, ◌<◌}
use Rattle.model.specs.Coordinates.{Place, negative, offset, place}
use Rattle.model.specs.Bitmaps.{is_pane, place_shift, surface_of, Depth}
use Rattle.model.specs.Scissor.{Current}
use Rattle.model.specs.declared.Geometry.{Geometry}
use Rattle.model.specs.declared.Row.{Row}
use Rattle.model.specs.declared.Pane.{Pane}
use Rattle.model.specs.declared.Point.{Point}
use Rattle.model.specs.declared.Clip.{Clip}
use Rattle.model.specs.declared.Scissor.{Scissor}
use Rattle.model.specs.declared.Bitmap.{Bitmap}
use Rattle.model.specs.declared.Bitmap.TheVariants as bitmap
use Rattle.model.specs.Pixels.{Change, blend}
use Rattle.model.specs.declared.Source.{Source}
use Rattle.coordinates.specs.Offsets.{directed}
use Rattle.bitmaps.specs.declared.areas.Area.{Area}
use Rattle.bitmaps.specs.Areas.{landing_area, OnScreen, rows_end}
use Rattle.raster.specs.Operations.{truth_of}
use Rattle.canvas.specs.declared.Target.{Target}
use Rattle.canvas.specs.declared.Course.{Course}
use Rattle.canvas.specs.declared.Offset.{Offset}

-- for buffers of these lengths
pub record Ready (t : Target) (screen store : ℕ) : Type 0 where
  pub depth : Depth t.area.surface.bits
  pub right : (t.area.surface.left + t.area.surface.width) * t.area.surface.bits ≤ 16 *
      t.area.surface.words
  pub small : t.area.surface.left + t.area.surface.width ≤ 65536
  pub long : rows_end t.area.surface ≤ cond t.area.onscreen screen store
  -- "width and height 1 to 4,096 pixels" of the screen, "a store .. above 2,097,152 bytes" (9): far below this
  pub near : rows_end t.area.surface ≤ 2 ^ 32
  pub east : t.clip.xmax < t.area.surface.width
  pub south : t.clip.ymax < t.area.surface.height
  pub table : t.truth ≡ truth_of t.pen.op

-- (x,y) lies in the clip
pub record InClip (t : Target) (x y : ℕ) : Type 0 where
  pub west : t.clip.xmin ≤ x
  pub east : x ≤ t.clip.xmax
  pub north : t.clip.ymin ≤ y
  pub south : y ≤ t.clip.ymax

-- pixel (x,y) becomes the blend of the source and its old value
abbrev pub change_with : Target → Source → ℕ → ℕ → Change
change_with t source x y =
    record { x = x; y = y; new = blend t.area.surface.bits (place_shift t.area.surface x) t.pen source }

-- the course of a command by (dx,dy) from a position
abbrev pub course_of : Point → ℤ → ℤ → Course
course_of from dx dy = record { from = from; heading = record { left = negative dx; up = negative dy } }

-- the place at an offset on a course
abbrev pub place_on : Course → Offset → Place
place_on c o = offset (place c.from) (directed c.heading.left o.x) (directed c.heading.up o.y)

-- ## The target of a pane's drawing commands

-- no column and no row
abbrev pub no_limits : Clip
no_limits = record { xmin = 1; ymin = 1; xmax = 0; ymax = 0 }

-- the columns and rows from the first to the last that a scissor holds, from the pane's corner
abbrev pub first_to_last : Row → Scissor → Clip
first_to_last r s =
    record {
      xmin = s.left - r.left;
      ymin = s.top - r.top;
      xmax = s.left - r.left + s.width - 1;
      ymax = s.top - r.top + s.height - 1;
    }

-- .. which are 16-bit numbers
pub record Limited (r : Row) (s : Scissor) : Type 0 where
  pub left : r.left ≤ s.left
  pub top : r.top ≤ s.top
  pub wide : 0 < s.width
  pub tall : 0 < s.height
  pub right : s.left + s.width ≤ r.left + 65536
  pub bottom : s.top + s.height ≤ r.top + 65536

-- .. or none
unfoldable pub limits_of : Row → Scissor → Clip
limits_of r s = cond (eqb s.width 0) no_limits (first_to_last r s)

-- "drawing on the pane takes its limits from it alone" (02, A.6), from the scissor; in the store they are the clip
abbrev pub landing_clip : Row → Bitmap → Scissor → Clip → Clip
landing_clip r bitmap.Absent s c = c
landing_clip r (bitmap.Pane xmax ymax b) s c = limits_of r s
landing_clip r (bitmap.Store a xmax ymax b) s c = c

-- an area with its limits, and how the record says that pixels are drawn
abbrev pub target_in : Area → Clip → Pane → Target
target_in area clip p =
    record {
      area = area;
      picking = p.flags.picking;
      clip = clip;
      pen = p.pen;
      truth = truth_of p.pen.op;
    }

-- where drawing lands by the record
unfoldable pub target_of : Geometry → Row → Pane → Target
target_of g r p = target_in (landing_area g r p.bitmap) (landing_clip r p.bitmap p.scissor p.clip) p

-- what target_of counts on: the pane's corner on the screen, an operation, and a scissor that goes with the clip
pub record Aimable (g : Geometry) (r : Row) (p : Pane) : Type 0 where
  pub placed : OnScreen g r
  pub op : p.pen.op < 16
  pub scissor : Current r p

-- a target is a bitmap's: the pane's pixels lie in the screen, a store bitmap's where its address says
pub record Aimed (t : Target) (g : Geometry) (r : Row) (active : Bitmap) : Type 0 where
  pub pane : is_pane active ≡ true → t.area.onscreen ≡ true
  pub surface : is_pane active ≡ false → t.area.surface ≡ surface_of g r active
