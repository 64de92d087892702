-- What model's plan of a drawing says, dot by dot: its dots painted on the pane's target, whose limits are the scissor's.
use mathlib.Core.Path.{◌≡◌, refl, sym, ap, ◌∙◌}
use mathlib.Core.Bool.{Bool, true, false, cond, not}
use mathlib.Core.List.{List, []}
use Prim.Native.Nat.{ℕ}
use native.Mathlib.Nat.{zero-add}
use native.Mathlib.Omega.{arith}
use Rattle.model.specs.declared.Geometry.{Geometry}
use Rattle.model.specs.declared.Row.{Row}
use Rattle.model.specs.declared.Pane.{Pane}
use Rattle.model.specs.declared.Bitmap.{Bitmap}
use Rattle.model.specs.declared.Bitmap.TheVariants as bitmap
use Rattle.model.specs.Bitmaps.{is_pane, surface_of, pane_surface}
use Rattle.model.specs.Pixels.{Change, changes}
use Rattle.model.specs.Dots.{Drawing, hits}
use Rattle.model.specs.Faults.{no_bitmap}
use Rattle.model.specs.Effects.{draws}
use Rattle.model.specs.Steps.{on_store, on_screen, made_by, paint_of, drew_pane, plan_of}
use Rattle.model.specs.Runs.{carried}
use Rattle.model.proofs.PaintLaws.{paint_is}
use Rattle.canvas.specs.Canvas.{Canvas, canvas, painted_all}
use Rattle.canvas.specs.declared.Target.{Target}
use Rattle.canvas.specs.Targets.{target_in, target_of}
use Rattle.bitmaps.specs.Areas.{area_of}
use Rattle.canvas.proofs.LandingLaws.{Landing, painted_all_landing}
use Rattle.canvas.proofs.CanvasLaws.{changes_if, painted_all_hits, painted_all_screen, painted_all_store}

-- the canvas after a pane's drawing
unfoldable pub canvas_of : Geometry → Row → Pane → Drawing → List ℕ → List ℕ → Canvas
canvas_of g r p d screen store = painted_all (target_of g r p) d.dots (canvas screen store 0)

-- changes are made in the buffer that holds the bitmap, and none in pick mode
screen_if : (g : Geometry) (r : Row) (b : Bitmap) (picking : Bool) (cs : List Change) (screen : List ℕ) → no_bitmap b ≡ false
    → changes (pane_surface g r) (on_screen b (cond picking [] cs)) screen ≡ changes_if picking (is_pane b) (surface_of g r b) cs screen
unfolding changes surface_of
screen_if g r bitmap.Absent picking cs screen e = let n : ◌≡◌ {A = ℕ} 0 1 = cc in absurd (let f : ⊥ = omega arith in f)
screen_if g r (bitmap.Pane x y b) true cs screen e = refl
screen_if g r (bitmap.Pane x y b) false cs screen e = refl
screen_if g r (bitmap.Store a x y b) true cs screen e = refl
screen_if g r (bitmap.Store a x y b) false cs screen e = refl

store_if : (g : Geometry) (r : Row) (b : Bitmap) (picking : Bool) (cs : List Change) (store : List ℕ) → no_bitmap b ≡ false
    → on_store g r b (cond picking [] cs) store ≡ changes_if picking (not (is_pane b)) (surface_of g r b) cs store
unfolding changes surface_of
store_if g r bitmap.Absent picking cs store e = let n : ◌≡◌ {A = ℕ} 0 1 = cc in absurd (let f : ⊥ = omega arith in f)
store_if g r (bitmap.Pane x y b) true cs store e = refl
store_if g r (bitmap.Pane x y b) false cs store e = refl
store_if g r (bitmap.Store a x y b) true cs store e = refl
store_if g r (bitmap.Store a x y b) false cs store e = refl

module _ (g : Geometry) (r : Row) (p : Pane) (d : Drawing) (screen store : List ℕ) (e : no_bitmap p.bitmap ≡ false)
    (h : Landing g r p.bitmap p.clip p.scissor) where
  -- the target by bitmap and clip, which 01's definitions speak of
  by_clip : Target
  by_clip = target_in (area_of g r p.bitmap) p.clip p

  canvas_is : canvas_of g r p d screen store ≡ painted_all by_clip d.dots (canvas screen store 0)
  unfolding canvas_of by_clip
  canvas_is = painted_all_landing g r p h d.dots (canvas screen store 0)

  hits_is : hits (surface_of g r p.bitmap) p.clip d.dots ≡ (canvas_of g r p d screen store).hits
  unfolding by_clip
  hits_is = sym (ap (λ (c : Canvas). c.hits) canvas_is ∙ painted_all_hits by_clip d.dots (canvas screen store 0) ∙ zero-add _)

  -- pick mode draws none, and else what is visible is drawn
  drawn_is : paint_of (surface_of g r p.bitmap) p d ≡ cond p.flags.picking 0 (canvas_of g r p d screen store).hits
  drawn_is = paint_is (surface_of g r p.bitmap) p d ∙ ap (cond p.flags.picking 0) hits_is

  screen_is : changes (pane_surface g r) (on_screen p.bitmap (made_by (surface_of g r p.bitmap) p d)) screen ≡ (canvas_of g r p d screen store).screen
  unfolding by_clip made_by
  screen_is = screen_if g r p.bitmap p.flags.picking _ screen e
      ∙ sym (ap (λ (c : Canvas). c.screen) canvas_is ∙ painted_all_screen by_clip d.dots (canvas screen store 0))

  store_is : on_store g r p.bitmap (made_by (surface_of g r p.bitmap) p d) store ≡ (canvas_of g r p d screen store).store
  unfolding by_clip made_by
  store_is = store_if g r p.bitmap p.flags.picking _ store e
      ∙ sym (ap (λ (c : Canvas). c.store) canvas_is ∙ painted_all_store by_clip d.dots (canvas screen store 0))

  -- the plan of a drawing carried out is the canvas with the record after it
  pub planned : (next : ℕ) → carried g r (plan_of g r p store next (draws d)) screen ≡ record {
    count = 1;
    paint = cond p.flags.picking 0 (canvas_of g r p d screen store).hits;
    pane = drew_pane p next d (canvas_of g r p d screen store).hits;
    screen = (canvas_of g r p d screen store).screen;
    store = (canvas_of g r p d screen store).store;
  }
  unfolding plan_of
  planned next = λ i. record { count = 1; paint = drawn_is i; pane = drew_pane p next d (hits_is i); screen = screen_is i; store = store_is i }
