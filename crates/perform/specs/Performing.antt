-- A command done on a pane: what is needed of the pane, and what the command leaves.
use Rattle.std.specs.Prelude.{◌≡◌, cond, List, [], ℕ, ◌≤◌, length}
use Rattle.model.specs.declared.Geometry.{Geometry}
use Rattle.model.specs.declared.Row.{Row}
use Rattle.model.specs.declared.Pane.{Pane}
use Rattle.model.specs.declared.Command.{Command}
use Rattle.model.specs.Bitmaps.{pane_surface, pixels}
use Rattle.model.specs.Dots.{Drawing}
use Rattle.model.specs.Effects.{becomes, draws, effect_of}
use Rattle.model.specs.Faults.{context_of, fault_of}
use Rattle.model.specs.Runs.{Finish, carried, most_pixels}
use Rattle.model.specs.Steps.{drew_pane, plan_of}
use Rattle.bitmaps.specs.Places.{Placed, Cornered}
use Rattle.refusals.specs.Good.{Good}
use Rattle.canvas.specs.declared.Drawn.{Drawn}
use Rattle.canvas.specs.Canvas.{canvas, Drew}
use Rattle.canvas.specs.Targets.{target_of}
use Rattle.perform.specs.declared.Performed.{Performed}

-- ## What is needed

-- what refusals 6 to 12 leave of a pane, its screen and its store having so many bytes
pub record Sound (g : Geometry) (r : Row) (p : Pane) (screen store : ℕ) : Type 0 where
  pub placed : Placed g r screen store
  pub good : Good g r p

-- .. and of a command that is free of faults
pub record Allowed (g : Geometry) (r : Row) (p : Pane) (screen : ℕ) (store : List ℕ) (c : Command) : Type 0 where
  pub sound : Sound g r p screen (length store)
  pub clear : fault_of g r (context_of p) store c ≡ 0

-- ## What is left

-- commands done, pixels drawn, and the record, the screen and the store that are left
abbrev pub finish : ℕ → ℕ → Pane → List ℕ → List ℕ → Finish
finish count paint pane screen store =
    record { count = count; paint = paint; pane = pane; screen = screen; store = store }

-- a command that is free of faults, done, the address after it being `next`
unfoldable pub performed : Geometry → Row → Pane → ℕ → Command → List ℕ → List ℕ → Finish
performed g r p next c screen store =
    carried g r (plan_of g r p store next (effect_of g r p (pixels (pane_surface g r) screen) store next c)) screen

-- ## The commands that draw nothing

-- free of faults, with at most eight return addresses, of a pane whose corner lies on the screen
pub record Settling (r : Row) (p : Pane) (c : Command) : Type 0 where
  pub geometry : Geometry
  pub store : List ℕ
  pub clear : fault_of geometry r (context_of p) store c ≡ 0
  pub returns : p.returns.count ≤ 8
  pub corner : Cornered r

-- the record is the command's effect, if it has one on the record alone
pub record Settles (r : Row) (p : Pane) (next : ℕ) (c : Command) (q : Pane) : Type 0 where
  pub is : (g : Geometry) (pixel_of : ℕ → ℕ → ℕ) (store : List ℕ) (q' : Pane)
      → effect_of g r p pixel_of store next c ≡ becomes q' → q ≡ q'

-- ## The drawing commands, and all

-- a drawing command's routine, on the pane's target: it carries out what the command draws, and draws at most
-- so much
pub record Carries (g : Geometry) (r : Row) (p : Pane) (c : Command) (screen store : List ℕ) (d : Drawn)
    (screen' store' : List ℕ) : Type 0 where
  pub drew : (next : ℕ) (w : Drawing) → effect_of g r p (pixels (pane_surface g r) screen) store next c ≡ draws w
      → Drew (target_of g r p) w (canvas screen store 0) d screen' store'
  pub few : d.hits ≤ most_pixels

-- a command done: it leaves what model says, and draws at most so much
pub record Performs (g : Geometry) (r : Row) (p : Pane) (next : ℕ) (c : Command) (screen store : List ℕ)
    (d : Performed) (screen' store' : List ℕ) : Type 0 where
  pub leaves : finish 1 d.paint d.pane screen' store' ≡ performed g r p next c screen store
  pub few : d.paint ≤ most_pixels

-- a command that drew nothing
abbrev pub quietly : Pane → Performed
quietly p = record { pane = p; paint = 0 }

-- a drawing command, by what its routine answered
abbrev pub drew_on : Pane → ℕ → Drawn → Performed
drew_on p next d = record {
  pane = drew_pane p next (record { dots = []; position = d.position; trap = d.trap }) d.hits;
  paint = cond p.flags.picking 0 d.hits;
}
