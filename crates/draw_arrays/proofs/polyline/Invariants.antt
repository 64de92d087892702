-- `draw_arrays::polyline` meets its contract. The loop's invariant: what is left from pair k on, from pixel `first` and index `index` on,
-- drawn from the position on what the buffers are now, gives the whole; the trap flag is not set; the array lies in the store, where it
-- reads as it did at entry; and no segment before took more indexes than the longest line.
use mathlib.Core.Path.{◌≡◌}
use mathlib.Core.Bool.{false}
use Prim.Native.Nat.{◌-◌, ◌*◌, ◌≤◌}
use lib.ListN.{length}
use Rattle.model.specs.Lines.{pairs_at, polyline}
use Rattle.canvas.specs.Canvas.{canvas}
use Rattle.canvas.proofs.LoopLaws.{Underway}
use Rattle.traces.specs.Slopes.{longest_line}
use Rattle.draw_arrays.proofs.ArrayLaws.{segments_left}
use Rattle.draw_arrays.proofs.polyline.Given as goal

abbrev pub invariant-loop-k : goal.invariant-loop-k
invariant-loop-k l =
    record {
      underway : Underway l.t (polyline l.t.pen l.initial.d.position (pairs_at l.initial.store l.array l.n))
          (segments_left l.t.pen l.initial.store l.array l.n l.first l.index l.k l.d.position)
          longest_line (canvas l.initial.screen l.initial.store 0) l.screen l.store l.d l.k l.n;
      untrapped : l.d.trap ≡ false;
      inside : 4 * l.n ≤ length l.initial.store - l.array;
      first : l.first ≤ 1;
      index : l.index ≤ longest_line * l.k;
    }
