-- One command (01, "One command"): checked, then planned. Nothing here sees the screen: a step gets a reader
-- of its own pane's pixels, and answers the next record, the next store and the changes to the pane's pixels.
use Rattle.std.specs.Prelude.{ℕ, List, [], cond, ◌&&◌, ◌||◌, ltb, eqb, length}
use Rattle.model.specs.Bitmaps.{Geometry, Row, Bitmap, Surface, surface_of}
use Rattle.model.specs.declared.Bitmap.TheVariants as bitmap
use Rattle.model.specs.Numbers.{status_trapped, fault_number}
use Rattle.model.specs.Record.{Pane, Progress, Flags, flags_of, with_progress, with_position, with_flags, ended}
use Rattle.model.specs.Record.{faulted}
use Rattle.model.specs.Pixels.{Change, changes}
use Rattle.model.specs.Dots.{Drawing, hits, changes_of}
use Rattle.model.specs.Commands.{Command, Decoded, decode}
use Rattle.model.specs.declared.Decoded.TheVariants.{Do, End, Fault}
use Rattle.model.specs.Faults.{context_of, fault_of}
use Rattle.model.specs.Effects.{Effect, becomes, draws, effect_of}

-- commands counted, pixels drawn, the next record, the next store, the changes to the pane's pixels
pub record Plan : Type 0 where
  pub counted : ℕ
  pub paint : ℕ
  pub pane : Pane
  pub store : List ℕ
  pub drawn : List Change

-- "nothing else changes, nothing is counted"
abbrev pub stopped : Pane → List ℕ → Plan
stopped q store = record { counted = 0; paint = 0; pane = q; store = store; drawn = [] }

-- ## A drawing

-- the flags after a drawing with so many visible pixels. "In pick mode .. the pick flag becomes 1 if some pixel
-- would have been drawn"; "T sets the trap flag; no command resets it"
abbrev pub drew_flags : Flags → Drawing → ℕ → Flags
drew_flags f d n = flags_of f.picking (f.pick || (f.picking && ltb 0 n)) (f.trap || d.trap) f.switch

-- how far the list has come after a drawing: "With the switch on, a CHAR that met a T is finished, counted, and
-- leaves status 4" (02, A.7); no other drawing meets a T
abbrev pub drew_progress : Pane → ℕ → Drawing → Progress
drew_progress p next d =
    record {
      status = cond (p.flags.switch && d.trap) status_trapped p.progress.status;
      fault = p.progress.fault;
      pointer = next;
    }

-- the record after a drawing: pointer and status, position, flags
abbrev pub drew_pane : Pane → ℕ → Drawing → ℕ → Pane
drew_pane p next d n =
    with_progress (with_position (with_flags p (drew_flags p.flags d n)) d.position) (drew_progress p next d)

-- changes to a bitmap are changes to the store or to the pane's pixels
abbrev pub on_store : Geometry → Row → Bitmap → List Change → List ℕ → List ℕ
on_store g r bitmap.Absent cs store = store
on_store g r (bitmap.Pane xmax ymax b) cs store = store
on_store g r (bitmap.Store a xmax ymax b) cs store = changes (surface_of g r (bitmap.Store a xmax ymax b)) cs store

abbrev pub on_screen : Bitmap → List Change → List Change
on_screen bitmap.Absent cs = []
on_screen (bitmap.Pane xmax ymax b) cs = cs
on_screen (bitmap.Store a xmax ymax b) cs = []

-- "In pick mode no pixel changes"
unfoldable pub made_by : Surface → Pane → Drawing → List Change
made_by s p d = cond p.flags.picking [] (changes_of s p.clip p.pen d.dots)

-- "the number of pixels drawn in it, a pixel drawn twice counting twice and pick mode counting none" (02, A.5):
-- a drawn pixel is one change, whether or not mask and operation leave its value as it was
unfoldable pub paint_of : Surface → Pane → Drawing → ℕ
paint_of s p d = length (made_by s p d)

-- ## The plan of a command

-- "the command is done, counts one, and the pointer goes on"
unfoldable pub plan_of : Geometry → Row → Pane → List ℕ → ℕ → Effect → Plan
plan_of g r p store next (becomes q) = record { counted = 1; paint = 0; pane = q; store = store; drawn = [] }
plan_of g r p store next (draws d) =
    record {
      counted = 1;
      paint = paint_of (surface_of g r p.bitmap) p d;
      pane = drew_pane p next d (hits (surface_of g r p.bitmap) p.clip d.dots);
      store = on_store g r p.bitmap (made_by (surface_of g r p.bitmap) p d) store;
      drawn = on_screen p.bitmap (made_by (surface_of g r p.bitmap) p d);
    }

-- "All is checked before the first pixel": done where there is no fault
unfoldable pub attempted : Geometry → Row → Pane → (ℕ → ℕ → ℕ) → List ℕ → ℕ → Command → ℕ → Plan
attempted g r p pixel_of store next c fault =
    cond (eqb fault 0) (plan_of g r p store next (effect_of g r p pixel_of store next c))
    (stopped (faulted p fault) store)

unfoldable pub obey : Geometry → Row → Pane → (ℕ → ℕ → ℕ) → List ℕ → Decoded → Plan
obey g r p pixel_of store End = stopped (ended p) store
obey g r p pixel_of store (Fault f) = stopped (faulted p (fault_number f)) store
obey g r p pixel_of store (Do c next) = attempted g r p pixel_of store next c (fault_of g r (context_of p) store c)

-- one step, from the record, what the pane shows of its pixels, and its store
unfoldable pub step : Geometry → Row → Pane → (ℕ → ℕ → ℕ) → List ℕ → Plan
step g r p pixel_of store = obey g r p pixel_of store (decode r.len store p.progress.pointer)
