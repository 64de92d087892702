-- A decoded command tried and done, and what is made of the end and of a fault.
use Rattle.std.specs.Prelude.{◌≡◌, List, ℕ, max, ◌-◌, ◌*◌, ◌≤◌, ◌<◌, length}
use Rattle.model.specs.declared.Geometry.{Geometry}
use Rattle.model.specs.declared.Row.{Row}
use Rattle.model.specs.declared.Pane.{Pane}
use Rattle.model.specs.declared.Command.{Command}
use Rattle.model.specs.declared.Decoded.{Decoded}
use Rattle.model.specs.declared.Decoded.TheVariants.{Do, End, Fault}
use Rattle.model.specs.Bitmaps.{pane_surface, pixels}
use Rattle.model.specs.Commands.{Addressed, decode}
use Rattle.model.specs.Faults.{context_of, fault_of}
use Rattle.model.specs.Numbers.{status_running, fault_number}
use Rattle.model.specs.Record.{ended, faulted}
use Rattle.model.specs.Runs.{Finish, PaintFits, carried, most_pixels, runs}
use Rattle.model.specs.Steps.{attempted}
use Rattle.perform.specs.Performing.{Sound, finish}
use Rattle.batches.specs.Batches.{onward}
use Rattle.processor.specs.declared.Finished.{Finished}

abbrev pub finished_with : Pane → ℕ → ℕ → Finished
finished_with pane count paint = record { pane = pane; count = count; paint = paint }

-- what was answered, with the screen and the store
abbrev pub finish_of : Finished → List ℕ → List ℕ → Finish
finish_of s screen store = finish s.count s.paint s.pane screen store

-- a command tried: recorded as faulty, or done, carried out
unfoldable pub obeyed : Geometry → Row → Pane → ℕ → Command → List ℕ → List ℕ → Finish
obeyed g r p next c screen store =
    carried g r
    (attempted g r p (pixels (pane_surface g r) screen) store next c (fault_of g r (context_of p) store c)) screen

-- .. by the code: it leaves what model says, counts one at the most, and draws nothing where it counts none
pub record Obeys (g : Geometry) (r : Row) (p : Pane) (next : ℕ) (c : Command) (screen store : List ℕ)
    (s : Finished) (screen' store' : List ℕ) : Type 0 where
  pub leaves : finish_of s screen' store' ≡ obeyed g r p next c screen store
  pub one : s.count ≤ 1
  pub few : s.paint ≤ s.count * most_pixels

-- what is known of a running pane with budget left, at whose pointer a command was found
pub record Advancing (g : Geometry) (r : Row) (p : Pane) (screen : ℕ) (store : List ℕ) (c : Command) (next budget : ℕ)
    : Type 0 where
  pub sound : Sound g r p screen (length store)
  pub running : p.progress.status ≡ status_running
  pub told : decode r.len store p.progress.pointer ≡ Do c next
  pub addressed : Addressed c
  pub some : 0 < budget

-- one command tried, or a batch: with a run of what is left of the budget after it, what a run of the whole budget
-- leaves. A command costs one of the budget, be it counted or not
pub record Advances (g : Geometry) (r : Row) (budget : ℕ) (p : Pane) (screen store : List ℕ) (s : Finished)
    (screen' store' : List ℕ) : Type 0 where
  pub leaves : onward g r (budget - max 1 s.count) (finish_of s screen' store') ≡ runs g r budget p screen store
  pub within : max 1 s.count ≤ budget
  pub few : s.paint ≤ s.count * most_pixels
  pub sound : Sound g r s.pane (length screen') (length store')

-- the record after an end word or a fault of the decoder
abbrev pub stopped_of : Pane → Decoded → Pane
stopped_of p End = ended p
stopped_of p (Fault f) = faulted p (fault_number f)
stopped_of p (Do c next) = p

-- a run by the code: it leaves what model says, and its pixels fit
pub record Runs (g : Geometry) (r : Row) (budget : ℕ) (p : Pane) (screen store : List ℕ) (s : Finished)
    (screen' store' : List ℕ) : Type 0 where
  pub leaves : finish_of s screen' store' ≡ runs g r budget p screen store
  pub paint : PaintFits budget (runs g r budget p screen store)
