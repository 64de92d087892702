-- The visible pixels of a trace, from one to the next: where each lies, and the two steps between them.
use Rattle.std.specs.Prelude.{◌≡◌, ℕ, zero, suc, ◌+◌, ◌-◌, ◌*◌, ◌%◌, ◌^◌, ◌<◌, ◌≤◌, Bool, cond, List, pos, nat_lt}
use Rattle.model.specs.Words.{digit}
use Rattle.model.specs.Bitmaps.{Fits, Depth}
use Rattle.model.specs.Coordinates.{index}
use Rattle.model.specs.Pixels.{changes}
use Rattle.model.specs.Dots.{changes_of}
use Rattle.model.specs.declared.Surface.{Surface}
use Rattle.bitmaps.specs.Areas.{rows_end}
use Rattle.coordinates.specs.declared.Edges.{Edges}
use Rattle.canvas.specs.declared.Target.{Target}
use Rattle.strips.specs.Strokes.{pattern_on}
use Rattle.stamps.specs.Stamps.{stamp_byte, stamped}
use Rattle.traces.specs.declared.Trace.{Trace}
use Rattle.traces.specs.declared.walks.Spot.{Spot}
use Rattle.traces.specs.declared.walks.Steps.{Steps}
use Rattle.traces.specs.Slopes.{rest_of}
use Rattle.traces.specs.Traces.{TraceSmall, trace_place, trace_dots}
use Rattle.traces.specs.Edges.{TraceEdges}

-- ## Where a pixel lies

-- the column and the row of pixel i of a trace's line, where these are not negative
abbrev pub column_on : Trace → ℕ → ℕ
column_on s i = index (trace_place s i).x

abbrev pub row_on : Trace → ℕ → ℕ
row_on s i = index (trace_place s i).y

-- the bits of the surface's words before pixel (x,y)
abbrev pub bit_before : Surface → ℕ → ℕ → ℕ
bit_before u x y = 16 * (u.words * (u.top + y)) + (u.left + x) * u.bits

-- pixel i is a pixel of the surface
pub record Located (u : Surface) (s : Trace) (i : ℕ) : Type 0 where
  pub number : i ≤ s.axes.larger
  pub x : (trace_place s i).x ≡ pos (column_on s i)
  pub y : (trace_place s i).y ≡ pos (row_on s i)
  pub column : column_on s i < u.width
  pub row : row_on s i < u.height

-- .. whose bits a machine's number counts
pub record Locatable (u : Surface) (s : Trace) (i : ℕ) : Type 0 where
  pub small : TraceSmall s
  pub located : Located u s i
  pub depth : Depth u.bits
  pub right : (u.left + u.width) * u.bits ≤ 16 * u.words
  pub near : rows_end u ≤ 2 ^ 32

-- where pixel i of a trace's line lies
abbrev pub spot_at : Surface → Trace → ℕ → Spot
spot_at u s i = record { bit = bit_before u (column_on s i) (row_on s i); rest = rest_of s.axes i }

-- ## Steps

-- so many bits on, or back: added to a number, it wraps
abbrev pub step_of : Bool → ℕ → ℕ
step_of back n = cond back ((2 ^ 64 - n) % 2 ^ 64) n

-- the two steps of a trace
abbrev pub steps_of : Surface → Trace → Steps
steps_of u s =
    record {
      straight = cond s.axes.level (step_of s.heading.left u.bits) (step_of s.heading.up (16 * u.words));
      diagonal = (step_of s.heading.left u.bits + step_of s.heading.up (16 * u.words)) % 2 ^ 64;
      rise = 2 * s.axes.smaller;
      over = 2 * s.axes.larger - 2 * s.axes.smaller;
    }

-- a spot after a step
abbrev pub spot_after : Spot → ℕ → ℕ → Spot
spot_after s step rest = record { bit = (s.bit + step) % 2 ^ 64; rest = rest }

-- the next spot of a line
unfoldable pub next_spot : Spot → Steps → Spot
next_spot s g =
    cond (nat_lt s.rest g.over) (spot_after s g.straight (s.rest + g.rise))
    (spot_after s g.diagonal (s.rest - g.over))

-- spot k from a spot on
unfoldable pub spot_no : Spot → Steps → ℕ → Spot
spot_no from g zero = from
spot_no from g (suc k) = next_spot (spot_no from g k) g

-- ## Pixels stamped one after another

-- n pixels from a spot on, some at least, lie in a buffer
pub record Walkable (base : ℕ) (from : Spot) (g : Steps) (n stamps buffer : ℕ) : Type 0 where
  pub table : stamps ≡ 64
  pub some : 0 < n
  pub few : n < 2 ^ 63
  pub inside : (k : ℕ) → k < n → stamp_byte base (spot_no from g k).bit < buffer
  pub rests : (k : ℕ) → k + 1 < n → (spot_no from g k).rest + g.rise < 2 ^ 64

-- .. stamped, pixel k under `on k`
unfoldable pub walked : List ℕ → ℕ → Spot → Steps → (ℕ → ℕ) → ℕ → List ℕ → List ℕ
walked stamps base from g on zero buffer = buffer
walked stamps base from g on (suc n) buffer =
    stamped stamps base (spot_no from g n).bit (on n) (walked stamps base from g on n buffer)

-- under ones, and under the bits of a pattern
abbrev pub solid : ℕ → ℕ
solid k = 1

abbrev pub pattern_digit : ℕ → ℕ → ℕ
pattern_digit pattern k = digit (pattern_on pattern k)

-- ## A trace drawn

-- its visible pixels, some at least, can be drawn in a buffer
pub record Tracing (t : Target) (s : Trace) (e : Edges) (buffer : List ℕ) : Type 0 where
  pub fits : Fits t.area.surface buffer
  pub near : rows_end t.area.surface ≤ 2 ^ 32
  pub small : t.area.surface.left + t.area.surface.width ≤ 65536
  pub east : t.clip.xmax < t.area.surface.width
  pub south : t.clip.ymax < t.area.surface.height
  pub numbers : TraceSmall s
  pub edges : TraceEdges t.clip s e
  pub some : e.first < e.second

-- the buffer that holds the bitmap, with the trace's dots drawn
unfoldable pub traced : Target → Trace → List ℕ → List ℕ
traced t s buffer =
    changes t.area.surface
    (changes_of t.area.surface t.clip t.pen (trace_dots t.pen s)) buffer
