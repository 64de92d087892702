-- A drawing in the buffer that holds the bitmap: what its dots change there, and how many are visible, are the canvas that it leaves.
use mathlib.Core.Path.{◌≡◌, refl, sym, ap, ◌∙◌}
use mathlib.Core.Bool.{Bool, true, false, cond}
use mathlib.Core.List.{List}
use Prim.Native.Nat.{ℕ, ◌+◌}
use lib.ListN.{length}
use Rattle.model.specs.Pixels.{changes}
use Rattle.model.specs.Dots.{Dot, hits, changes_of}
use Rattle.canvas.specs.declared.Target.{Target}
use Rattle.canvas.specs.Canvas.{Canvas, canvas, painted_all}
use Rattle.canvas.proofs.CanvasLaws.{painted_all_hits, painted_all_screen, painted_all_store}

pub buffer_length : (here : Bool) (screen store : List ℕ) → length (cond here screen store) ≡ cond here (length screen) (length store)
buffer_length true screen store = refl
buffer_length false screen store = refl

-- a canvas is its parts
canvas_is : (c : Canvas) {screen store : List ℕ} {count : ℕ} → screen ≡ c.screen → store ≡ c.store → count ≡ c.hits → canvas screen store count ≡ c
canvas_is c a b n = rw (a, b, n) refl

module _ (t : Target) (ds : List Dot) (screen store : List ℕ) (before count : ℕ) (h : hits t.area.surface t.clip ds ≡ count) where
  total : before + count ≡ (painted_all t ds (canvas screen store before)).hits
  total = sym (painted_all_hits t ds (canvas screen store before) ∙ ap (λ (n : ℕ). before + n) h)

  -- in pick mode
  pub picked_painted : t.picking ≡ true → canvas screen store (before + count) ≡ painted_all t ds (canvas screen store before)
  picked_painted p = canvas_is (painted_all t ds (canvas screen store before))
      (sym (painted_all_screen t ds (canvas screen store before) ∙ rw p refl)) (sym (painted_all_store t ds (canvas screen store before) ∙ rw p refl)) total

  -- on the screen
  pub screen_painted : {new : List ℕ} → t.picking ≡ false → t.area.onscreen ≡ true
      → new ≡ changes t.area.surface (changes_of t.area.surface t.clip t.pen ds) screen
      → canvas new store (before + count) ≡ painted_all t ds (canvas screen store before)
  screen_painted p o e = canvas_is (painted_all t ds (canvas screen store before))
      (e ∙ sym (painted_all_screen t ds (canvas screen store before) ∙ rw (p, o) refl))
      (sym (painted_all_store t ds (canvas screen store before) ∙ rw (p, o) refl)) total

  -- in the store
  pub store_painted : {new : List ℕ} → t.picking ≡ false → t.area.onscreen ≡ false
      → new ≡ changes t.area.surface (changes_of t.area.surface t.clip t.pen ds) store
      → canvas screen new (before + count) ≡ painted_all t ds (canvas screen store before)
  store_painted p o e = canvas_is (painted_all t ds (canvas screen store before))
      (sym (painted_all_screen t ds (canvas screen store before) ∙ rw (p, o) refl))
      (e ∙ sym (painted_all_store t ds (canvas screen store before) ∙ rw (p, o) refl)) total
