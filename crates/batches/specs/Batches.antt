-- A batch: commands that follow one another, each a line, a circle or a move, done on one target.
use Rattle.std.specs.Prelude.{◌≡◌, false, List, ℕ, ◌-◌, ◌*◌, ◌≤◌, length}
use Rattle.model.specs.declared.Geometry.{Geometry}
use Rattle.model.specs.declared.Row.{Row}
use Rattle.model.specs.declared.Pane.{Pane}
use Rattle.model.specs.declared.Point.{Point}
use Rattle.model.specs.Faults.{no_bitmap}
use Rattle.model.specs.Numbers.{status_running}
use Rattle.model.specs.Record.{with_pointer, with_position}
use Rattle.model.specs.Runs.{Finish, follow, most_pixels, runs}
use Rattle.canvas.specs.declared.Target.{Target}
use Rattle.canvas.specs.Targets.{target_of}
use Rattle.perform.specs.Performing.{Sound, finish}
use Rattle.batches.specs.declared.Batch.{Batch}

-- a sound pane that runs, has a bitmap and is not in pick mode, its screen and its store having so many bytes
pub record Drawable (g : Geometry) (r : Row) (p : Pane) (screen store : ℕ) : Type 0 where
  pub sound : Sound g r p screen store
  pub running : p.progress.status ≡ status_running
  pub active : no_bitmap p.bitmap ≡ false
  pub drawing : p.flags.picking ≡ false

-- the record of a pane whose list has come so far
abbrev pub reached : Pane → ℕ → Point → Pane
reached p pointer position = with_pointer (with_position p position) pointer

-- what a run of so many commands leaves, from what was done before
abbrev pub onward : Geometry → Row → ℕ → Finish → Finish
onward g r n f = follow (runs g r n) f

-- a batch by the code. "While status is 1 and budget is left, run does this" (01): with a run of what is left of the
-- budget after it, it leaves what a run of the whole budget leaves. Its commands are within the budget, and none draws
-- more than the most pixels; without a command it changes nothing
pub record Batches (g : Geometry) (r : Row) (budget : ℕ) (p : Pane) (screen store : List ℕ) (b : Batch)
    (screen' store' : List ℕ) : Type 0 where
  pub leaves : onward g r (budget - b.count)
      (finish b.count b.paint (reached p b.pointer b.position) screen' store')
      ≡ runs g r budget p screen store
  pub within : b.count ≤ budget
  pub few : b.paint ≤ b.count * most_pixels
  pub none : b.count ≡ 0 → (screen' ≡ screen) × (store' ≡ store)

-- .. on a target, from a pointer and a position: whichever pane has these
abbrev pub BatchesOn : Target → ℕ → Point → ℕ → List ℕ → List ℕ → Batch → List ℕ → List ℕ → Type 0
BatchesOn t pointer position budget screen store b screen' store' =
    (g : Geometry) (r : Row) (p : Pane) → Drawable g r p (length screen) (length store) → t ≡ target_of g r p
    → p.progress.pointer ≡ pointer → p.position ≡ position → Batches g r budget p screen store b screen' store'
