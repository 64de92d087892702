-- Short spans drawn through a stencil: spans below one another, cut at the same columns, have one.
use Rattle.std.specs.Prelude.{◌≡◌, true, false, ℕ, ◌+◌, ◌-◌, ◌*◌, ◌/◌, ◌%◌, ◌≤◌, ◌<◌}
use Rattle.model.specs.Bitmaps.{Depth}
use Rattle.raster.specs.Operations.{truth_of}
use Rattle.coordinates.specs.Offsets.{unbiased, Between}
use Rattle.coordinates.specs.declared.Edges.{Edges}
use Rattle.canvas.specs.declared.Target.{Target}
use Rattle.strips.specs.Strips.{InkOf}
use Rattle.strips.specs.declared.inks.Ink.{Ink}
use Rattle.stencils.specs.Stencils.{StencilOf}
use Rattle.stencils.specs.declared.Stencil.{Stencil}
use Rattle.spans.specs.declared.Span.{Span}
use Rattle.spans.specs.Spans.{Bounded, leftmost_of, phase_of}

-- a span of which some columns lie in the clip, sixteen at the most
pub record Short (t : Target) (s : Span) (e : Edges) : Type 0 where
  pub depth : Depth t.area.surface.bits
  pub small : t.area.surface.left + t.area.surface.width ≤ 65536
  pub east : t.clip.xmax < t.area.surface.width
  pub table : t.truth ≡ truth_of t.pen.op
  pub bounded : Bounded s
  pub columns : Between t.clip.xmin t.clip.xmax (unbiased s.x) s.left s.count e
  pub some : e.first < e.second
  pub few : e.second ≤ e.first + 16

-- the column of the row in which the visible part begins, and its first bit
abbrev pub start_column : Target → Span → Edges → ℕ
start_column t s e = t.area.surface.left + leftmost_of s e

abbrev pub start_bit : Target → Span → Edges → ℕ
start_bit t s e = start_column t s e * t.area.surface.bits

-- the stencil of a target's pen over the visible part of a span
pub record StencilFor (t : Target) (s : Span) (e : Edges) (r : Stencil) : Type 0 where
  pub fore : Ink
  pub back : Ink
  pub turn : ℕ
  pub ones : InkOf t.pen true fore
  pub zeros : InkOf t.pen false back
  pub index : turn ≡ (phase_of s e (start_column t s e) + start_bit t s e / 16 * (16 / t.area.surface.bits)) % 16
  pub stencil : StencilOf fore back t.area.surface.bits turn (start_bit t s e)
      (start_bit t s e + (e.second - e.first) * t.area.surface.bits) r
