-- `draw_arrays::scan_lines` meets its contract. The loop's invariant: what is left from triple k on, drawn from the position on what the
-- buffers are now, gives the whole; the trap flag is not set; and the array lies in the store, where it reads as it did at entry.
use mathlib.Core.Path.{◌≡◌}
use mathlib.Core.Bool.{false}
use Prim.Native.Nat.{◌-◌, ◌*◌, ◌≤◌}
use lib.ListN.{length}
use Rattle.model.specs.Lines.{triples_at, scan_lines}
use Rattle.canvas.specs.Canvas.{canvas}
use Rattle.canvas.proofs.LoopLaws.{Underway}
use Rattle.traces.specs.Slopes.{longest_line}
use Rattle.draw_arrays.proofs.ArrayLaws.{items_left, triple_at}
use Rattle.draw_arrays.proofs.scan_lines.Given as goal

abbrev pub invariant-loop-k : goal.invariant-loop-k
invariant-loop-k l =
    record {
      underway : Underway l.t (scan_lines l.t.pen l.initial.d.position (triples_at l.initial.store l.array l.n))
          (items_left (scan_lines l.t.pen) (triple_at l.initial.store l.array) l.n l.k l.d.position)
          longest_line (canvas l.initial.screen l.initial.store 0) l.screen l.store l.d l.k l.n;
      untrapped : l.d.trap ≡ false;
      inside : 6 * l.n ≤ length l.initial.store - l.array;
    }
