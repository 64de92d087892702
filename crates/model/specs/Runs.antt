-- A run (01, "One command"): "While status is 1 and budget is left". By recursion on the budget.
use Rattle.std.specs.Prelude.{ℕ, zero, suc, ◌+◌, ◌*◌, ◌^◌, ◌≤◌, ◌<◌, List, cond, eqb}
use Rattle.model.specs.Numbers.{status_running}
use Rattle.model.specs.Bitmaps.{Geometry, Row, pane_surface, pixels}
use Rattle.model.specs.Record.{Pane}
use Rattle.model.specs.Pixels.{changes}
use Rattle.model.specs.Steps.{Plan, step}

-- commands done, pixels drawn, and the record, the screen and the store that are left
pub record Finish : Type 0 where
  pub count : ℕ
  pub paint : ℕ
  pub pane : Pane
  pub screen : List ℕ
  pub store : List ℕ

-- nothing done
abbrev pub idle : Pane → List ℕ → List ℕ → Finish
idle p screen store = record { count = 0; paint = 0; pane = p; screen = screen; store = store }

-- a plan carried out
abbrev pub carried : Geometry → Row → Plan → List ℕ → Finish
carried g r plan screen =
    let shown = changes (pane_surface g r) plan.drawn screen in
    record { count = plan.counted; paint = plan.paint; pane = plan.pane; screen = shown; store = plan.store }

-- one step, carried out
unfoldable pub stepped : Geometry → Row → Pane → List ℕ → List ℕ → Finish
stepped g r p screen store = carried g r (step g r p (pixels (pane_surface g r) screen) store) screen

-- so many commands and pixels, and then what follows: "run reports the sum" (02, A.5)
abbrev pub add_counts : ℕ → ℕ → Finish → Finish
add_counts n m f =
    record { count = n + f.count; paint = m + f.paint; pane = f.pane; screen = f.screen; store = f.store }

unfoldable pub follow : (Pane → List ℕ → List ℕ → Finish) → Finish → Finish
follow rest a = add_counts a.count a.paint (rest a.pane a.screen a.store)

-- "A spent budget leaves status 1, even before an end word"
unfoldable pub runs : Geometry → Row → ℕ → Pane → List ℕ → List ℕ → Finish
runs g r zero p screen store = idle p screen store
runs g r (suc n) p screen store =
    cond (eqb p.progress.status status_running) (follow (λ q s t. runs g r n q s t) (stepped g r p screen store))
    (idle p screen store)

-- ## "The sum is 64 bits wide; budgets and limits keep it from overflowing, which is to be shown" (02, A.5)

-- the most pixels that a command draws: POLYLINE or SCAN_LINES with 65,535 lines of 32,769 pixels
abbrev pub most_pixels : ℕ
most_pixels = 65535 * 32769

-- what is shown of a run with a budget
pub record PaintFits (budget : ℕ) (f : Finish) : Type 0 where
  -- "budgets": no run does more commands than its budget, which has 32 bits
  pub commands : f.count ≤ budget
  pub budgeted : budget < 2 ^ 32
  -- "and limits": no command draws more than the most pixels
  pub limited : f.paint ≤ f.count * most_pixels
  -- "keep it from overflowing": "64 bits wide"
  pub fits : f.paint < 2 ^ 64
