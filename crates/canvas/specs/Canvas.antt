-- Both buffers under a list of dots (01, "Pixels"): what model's plan of a drawing says, dot by dot.
use Rattle.std.specs.Prelude.{ℕ, ◌+◌, ◌^◌, ◌≤◌, ◌<◌, ◌≡◌, ◌⊎◌, Bool, true, false, cond, List, [], ◌∷◌}
use Rattle.model.specs.declared.Surface.{Surface}
use Rattle.model.specs.Pixels.{Change, change}
use Rattle.model.specs.Dots.{Dot, Drawing, visible, change_of}
use Rattle.bitmaps.specs.Areas.{rows_end}
use Rattle.canvas.specs.declared.Target.{Target}
use Rattle.canvas.specs.declared.Drawn.{Drawn}

-- the screen, the pane's store, and how many dots were visible
pub record Canvas : Type 0 where
  pub screen : List ℕ
  pub store : List ℕ
  pub hits : ℕ

abbrev pub canvas : List ℕ → List ℕ → ℕ → Canvas
canvas screen store hits = record { screen = screen; store = store; hits = hits }

-- a change made in the buffer that holds the surface
abbrev pub changed_in : Bool → Surface → Change → Canvas → Canvas
changed_in true s ch c = canvas (change s ch c.screen) c.store c.hits
changed_in false s ch c = canvas c.screen (change s ch c.store) c.hits

-- "In pick mode no pixel changes"
abbrev pub changed_unless : Bool → Bool → Surface → Change → Canvas → Canvas
changed_unless true onscreen s ch c = c
changed_unless false onscreen s ch c = changed_in onscreen s ch c

abbrev pub counted : Canvas → Canvas
counted c = canvas c.screen c.store (c.hits + 1)

-- a visible dot
unfoldable pub hit : Target → Dot → Canvas → Canvas
hit t d c =
    counted (changed_unless t.picking t.area.onscreen t.area.surface
    (change_of t.area.surface t.pen d) c)

-- one dot
unfoldable pub painted : Target → Dot → Canvas → Canvas
painted t d c = cond (visible t.area.surface t.clip d) (hit t d c) c

-- a list of dots, in order
unfoldable pub painted_all : Target → List Dot → Canvas → Canvas
painted_all t [] c = c
painted_all t (d ∷ ds) c = painted_all t ds (painted t d c)

-- counts of visible dots stay below this, and so in 64 bits: no command draws more than 65,535 × 32,769
abbrev pub count_end : ℕ
count_end = 2 ^ 63

-- ## What a drawing routine promises

-- a list of dots, drawn on the canvas c, leaves c'
abbrev pub Painted : Target → List Dot → Canvas → Canvas → Type 0
Painted t ds c c' = c' ≡ painted_all t ds c

-- a whole drawing: its dots are painted, and its position and trap flag are those answered
pub record Drew (t : Target) (w : Drawing) (c : Canvas) (d : Drawn) (screen store : List ℕ) : Type 0 where
  pub dots : Painted t w.dots c (canvas screen store d.hits)
  pub position : d.position ≡ w.position
  pub trap : d.trap ≡ w.trap

-- ## Bytes of the store beside the bitmap

-- byte j of the store is none of the active bitmap's
abbrev pub Clear : Target → ℕ → Type 0
Clear t j = (t.area.onscreen ≡ true) ⊎ ((j < t.area.surface.base) ⊎ (rows_end t.area.surface ≤ j))

-- the bytes from `at` on, `size` of them, lie in a store of that length and are none of the active bitmap's
pub record Reach (t : Target) (store at size : ℕ) : Type 0 where
  pub inside : (j : ℕ) → at ≤ j → j < at + size → j < store
  pub clear : (j : ℕ) → at ≤ j → j < at + size → Clear t j
