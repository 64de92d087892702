-- Horizontal runs of pixels (02, A.3), here spans: where their pixels lie, what they are drawn with, and which
-- of them lie in bitmap and clip.
use Rattle.std.specs.Prelude.{◌≡◌, Bool, true, false, cond, ◌&&◌, List, Option, Some, None}
use Rattle.std.specs.Prelude.{ℕ, ◌+◌, ◌-◌, ◌%◌, ◌^◌, ◌≤◌, ◌<◌, leb, ltb, ◌+ℤ◌}
use Rattle.model.specs.Ranges.{listed}
use Rattle.model.specs.Coordinates.{Place, at}
use Rattle.model.specs.Pixels.{changes, pattern_source}
use Rattle.model.specs.Dots.{Dot, dot, lies, hits, changes_of}
use Rattle.model.specs.declared.Clip.{Clip}
use Rattle.model.specs.declared.Pen.{Pen}
use Rattle.model.specs.declared.Surface.{Surface}
use Rattle.coordinates.specs.Offsets.{directed, unbiased}
use Rattle.coordinates.specs.declared.Edges.{Edges}
use Rattle.canvas.specs.Canvas.{canvas, Painted}
use Rattle.canvas.specs.declared.Target.{Target}
use Rattle.strips.specs.Strips.{Reversed, Woven}
use Rattle.spans.specs.declared.Span.{Span}

-- pixel i of a span
abbrev pub span_place : Span → ℕ → Place
span_place s i = at (unbiased s.x +ℤ directed s.left i) (unbiased s.y)

unfoldable pub span_dot : Pen → Span → ℕ → Dot
span_dot pen s i = dot (span_place s i) (pattern_source pen (s.index + i))

-- the dots of a span
unfoldable pub span_dots : Pen → Span → List Dot
span_dots pen s = listed 0 s.count (span_dot pen s)

-- the most pixels that a span has: an offset's magnitude is at most 32,768
abbrev pub longest_span : ℕ
longest_span = 32769

-- pattern indexes stay below this: no POLYLINE has more than 65,535 × 32,769 pixels
abbrev pub index_end : ℕ
index_end = 2 ^ 32

-- the numbers of a span are small
pub record Bounded (s : Span) : Type 0 where
  pub x : s.x < 262144
  pub y : s.y < 262144
  pub count : s.count ≤ longest_span
  pub index : s.index < index_end

-- "Show that pixel i of a run lies in bitmap and clip exactly when i is from the first edge to below the
-- second, equal edges meaning none" (02, A.3)
pub record EdgesOf (u : Surface) (clip : Clip) (s : Span) (e : Edges) : Type 0 where
  -- "exactly when i is from the first edge to below the second"
  pub exactly : (i : ℕ) → i < s.count → lies u clip (span_place s i) ≡ (leb e.first i && ltb i e.second)
  -- "equal edges meaning none"
  pub none : e.first ≡ e.second → (i : ℕ) → i < s.count → lies u clip (span_place s i) ≡ false
  -- and where none does, the edges are equal
  pub equal : ((i : ℕ) → i < s.count → lies u clip (span_place s i) ≡ false) → e.first ≡ e.second
  -- the edges are in order, and among the pixels
  pub ordered : e.first ≤ e.second
  pub last : e.second ≤ s.count

-- ## Strips

-- the pattern as a span's columns meet it, from left to right: to the left it is met from its other end
abbrev pub Met : Bool → ℕ → ℕ → Type 0
Met false pattern met = met ≡ pattern
Met true pattern met = Reversed pattern met

-- the strips of a target's pen, for spans to the right or to the left
pub record Strung (t : Target) (left : Bool) (strips : List ℕ) : Type 0 where
  pub pattern : ℕ
  pub met : Met left t.pen.pattern pattern
  pub woven : Woven t.pen pattern t.area.surface.bits strips

-- ## The visible part of a span, from the left

-- its first pixel, from the left, has a coordinate that is not negative
pub record Reached (s : Span) (e : Edges) : Type 0 where
  pub right : s.left ≡ false → 65536 ≤ s.x + e.first
  pub left : s.left ≡ true → e.second + 65535 ≤ s.x

-- the column of its first pixel
abbrev pub leftmost_of : Span → Edges → ℕ
leftmost_of s e = cond s.left (s.x + 1 - e.second) (s.x + e.first) - 65536

-- the pattern's index at the row's first column, where the first pixel lies in column c of the row
abbrev pub phase_of : Span → Edges → ℕ → ℕ
phase_of s e c =
    cond s.left ((31 - (s.index + e.second - 1) % 16 - c % 16) % 16) ((s.index + e.first + 16 - c % 16) % 16)

-- the buffer that holds the bitmap, with a span's dots drawn
unfoldable pub span_changed : Target → Span → List ℕ → List ℕ
span_changed t s buffer =
    changes t.area.surface (changes_of t.area.surface t.clip t.pen (span_dots t.pen s)) buffer

-- ## What is to be drawn of dots in a row

-- the visible dots are counted, and those between edges that P tells of are still to be drawn
pub record Pending (P : Edges → Type 0) (t : Target) (ds : List Dot) (before seen : ℕ) (e : Edges) : Type 0 where
  pub edges : P e
  pub some : e.first < e.second
  pub count : seen ≡ before + hits t.area.surface t.clip ds
  pub drawing : t.picking ≡ false

-- .. or nothing is to be drawn: none is visible, or the mode is pick
abbrev pub Sighted : (Edges → Type 0) → Target → List Dot → ℕ → ℕ → Option Edges → Type 0
Sighted P t ds before seen None =
    (screen store : List ℕ) → Painted t ds (canvas screen store before) (canvas screen store seen)
Sighted P t ds before seen (Some e) = Pending P t ds before seen e
