-- Which pixels of a trace lie in the clip: those from a first edge to below a second.
use Rattle.std.specs.Prelude.{◌≡◌, ℕ, ◌+◌, ◌<◌, ◌≤◌, ◌&&◌, nat_le, nat_lt}
use Rattle.model.specs.Coordinates.{between}
use Rattle.model.specs.declared.Clip.{Clip}
use Rattle.coordinates.specs.declared.Edges.{Edges}
use Rattle.traces.specs.declared.Trace.{Trace}
use Rattle.traces.specs.declared.slopes.Axes.{Axes}
use Rattle.traces.specs.Slopes.{minor_of}
use Rattle.traces.specs.Traces.{trace_place}

-- of a line's pixels from `first` on, those whose number is among one pair of edges and whose minor offset is among
-- another
pub record Joint (a : Axes) (first : ℕ) (major minor e : Edges) : Type 0 where
  pub exactly : (i : ℕ) → first ≤ i → i ≤ a.larger
      → ((nat_le major.first i && nat_lt i major.second)
      && (nat_le minor.first (minor_of a i) && nat_lt (minor_of a i) minor.second))
      ≡ (nat_le e.first i && nat_lt i e.second)
  pub early : e.first < e.second → first ≤ e.first
  pub ordered : e.first ≤ e.second
  pub last : e.second ≤ a.larger + 1

-- of a trace's pixels, those in the clip
pub record TraceEdges (clip : Clip) (s : Trace) (e : Edges) : Type 0 where
  pub exactly : (i : ℕ) → s.first ≤ i → i ≤ s.axes.larger
      → (between clip.xmin clip.xmax (trace_place s i).x
      && between clip.ymin clip.ymax (trace_place s i).y)
      ≡ (nat_le e.first i && nat_lt i e.second)
  pub early : e.first < e.second → s.first ≤ e.first
  pub ordered : e.first ≤ e.second
  pub last : e.second ≤ s.axes.larger + 1
