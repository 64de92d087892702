-- The scissor's limits are the clip (02, A.6): a dot drawn within them is the dot drawn in bitmap and clip.
use mathlib.Core.Path.{◌≡◌, refl, sym, ap, subst, ◌∙◌}
use mathlib.Core.Bool.{Bool, true, false, cond, ◌&&◌}
use mathlib.Core.List.{List, [], ◌∷◌}
use Prim.Native.Nat.{ℕ, ◌+◌, ◌-◌, ◌≤◌, ◌<◌}
use native.Mathlib.Omega.{arith}
use borrow.Author.Tests.{ltb-true, lt-ltb, ne_eqb}
use lib.IntN.{ℤ, pos, negsuc}
use Rattle.model.specs.declared.Geometry.{Geometry}
use Rattle.model.specs.declared.Row.{Row}
use Rattle.model.specs.declared.Pane.{Pane}
use Rattle.model.specs.declared.Bitmap.{Bitmap}
use Rattle.model.specs.declared.Bitmap.TheVariants as bitmap
use Rattle.model.specs.declared.Clip.{Clip}
use Rattle.model.specs.declared.Scissor.{Scissor}
use Rattle.model.specs.declared.Surface.{Surface}
use Rattle.model.specs.Record.{no_scissor}
use Rattle.model.specs.Scissor.{clip_empty, clip_on_screen, scissor_of}
use Rattle.model.specs.Coordinates.{index}
use Rattle.model.specs.Words.{put_field}
use Rattle.model.specs.Bitmaps.{inside, place_bit, place_shift, pixels, pane_surface, surface_of, rule_broken}
use Rattle.model.specs.Pixels.{change}
use Rattle.model.specs.Dots.{Dot, something, below, visible, change_of}
use Rattle.model.specs.Faults.{clip_outside}
use Rattle.model.proofs.Decisions.{split, holds, both_true, both_of, and_false, cond_true, cond_false}
use Rattle.model.proofs.DotLaws.{lies_clip, lies_empty}
use Rattle.model.proofs.SetupLaws.{rule_broken_pane, clip_beyond_says, clip_empty_says}
use Rattle.bitmaps.specs.Areas.{screen_from, area_of, landing_area}
use Rattle.canvas.specs.Canvas.{Canvas, canvas, changed_unless, counted, hit, painted, painted_all}
use Rattle.canvas.specs.Targets.{no_limits, limits_of, Limited, landing_clip, target_in, target_of}

-- ## The limits

module _ (r : Row) (xmax ymax b : ℕ) (c : Clip) where
  scissor_none : clip_empty c ≡ true → scissor_of r (bitmap.Pane xmax ymax b) c ≡ no_scissor
  unfolding scissor_of
  scissor_none e = cond_true _ _ e

  scissor_some : clip_empty c ≡ false → scissor_of r (bitmap.Pane xmax ymax b) c ≡ clip_on_screen r c
  unfolding scissor_of
  scissor_some e = cond_false _ _ e

-- a scissor that goes with its clip, and that holds a pixel
pub scissor_limited : (r : Row) {b : Bitmap} (c : Clip) {s : Scissor} {xmax ymax bits : ℕ} → b ≡ bitmap.Pane xmax ymax bits → s ≡ scissor_of r b c
    → c.xmax < 65536 → c.ymax < 65536 → (s.width ≡ 0 → ⊥) → Limited r s
scissor_limited r c {s} {xmax} {ymax} {bits} e k wide high n =
    let is = k ∙ ap (λ (z : Bitmap). scissor_of r z c) e in
    split (clip_empty c)
    (λ f. absurd (n (ap (λ (z : Scissor). z.width) (is ∙ scissor_none r xmax ymax bits c f))))
    (λ f. let h = clip_empty_says c f in
    subst (Limited r) (sym (is ∙ scissor_some r xmax ymax bits c f))
    (record {
      left = omega arith;
      top = omega arith;
      wide = omega (arith, h.0);
      tall = omega (arith, h.1);
      right = omega (arith, h.0);
      bottom = omega (arith, h.1);
    }))

-- the limits of a clip that holds a pixel are the clip
limits_some : (r : Row) (c : Clip) → clip_empty c ≡ false → limits_of r (clip_on_screen r c) ≡ c
unfolding limits_of
limits_some r c e =
    let h = clip_empty_says c e in
    let xmin : r.left + c.xmin - r.left ≡ c.xmin = omega arith in
    let ymin : r.top + c.ymin - r.top ≡ c.ymin = omega arith in
    let xmax : r.left + c.xmin - r.left + (c.xmax + 1 - c.xmin) - 1 ≡ c.xmax = omega (arith, h.0) in
    let ymax : r.top + c.ymin - r.top + (c.ymax + 1 - c.ymin) - 1 ≡ c.ymax = omega (arith, h.1) in
    cond_false _ _ (ne_eqb (c.xmax + 1 - c.xmin) 0 (λ z. omega (arith, h.0)))
    ∙ (λ i. record { xmin = xmin i; ymin = ymin i; xmax = xmax i; ymax = ymax i })

-- ## Pixels of the pane, on the screen from its corner on

-- what set-up and refusal 12 leave of a pane with this bitmap, clip and scissor
pub record Landing (g : Geometry) (r : Row) (b : Bitmap) (c : Clip) (s : Scissor) : Type 0 where
  pub right : r.left + r.width ≤ g.width
  pub bottom : r.top + r.height ≤ g.height
  pub rule : rule_broken g r b ≡ false
  pub clip : clip_outside b c ≡ false
  pub scissor : s ≡ scissor_of r b c

inside_of : (s : Surface) (x y : ℕ) → x < s.width → y < s.height → inside s x y ≡ true
unfolding inside
inside_of s x y h k = both_of (lt-ltb x s.width h) (lt-ltb y s.height k)

module _ (g : Geometry) (r : Row) (right : r.left + r.width ≤ g.width) (bottom : r.top + r.height ≤ g.height) (x y : ℕ)
    (column : x < r.width) (row : y < r.height) where
  inside_screen : inside (screen_from g r) x y ≡ true
  unfolding screen_from
  inside_screen = inside_of (screen_from g r) x y (omega arith) (omega arith)

  inside_pane : inside (pane_surface g r) x y ≡ true
  unfolding pane_surface
  inside_pane = inside_of (pane_surface g r) x y column row

  pub pixels_landing : (l : List ℕ) → pixels (screen_from g r) l x y ≡ pixels (pane_surface g r) l x y
  unfolding pixels place_bit screen_from pane_surface
  pixels_landing l = cond_true _ _ inside_screen ∙ sym (cond_true _ _ inside_pane)

  change_landing : (new : ℕ → ℕ) (l : List ℕ)
      → change (screen_from g r) (record { x = x; y = y; new = new }) l ≡ change (pane_surface g r) (record { x = x; y = y; new = new }) l
  unfolding change place_bit screen_from pane_surface
  change_landing new l =
      cond_true _ _ inside_screen ∙ ap (λ (v : ℕ). put_field l (place_bit (pane_surface g r) x y) g.depth (new v)) (pixels_landing l)
      ∙ sym (cond_true _ _ inside_pane)

-- ## A dot

-- a dot within limits that lie in both surfaces is visible on both or on neither
visible_either : (u v : Surface) (c : Clip) → c.xmax < u.width → c.ymax < u.height → c.xmax < v.width → c.ymax < v.height
    → (d : Dot) → visible u c d ≡ visible v c d
unfolding visible
visible_either u v c a b e f d =
    ap (λ (z : Bool). something d.source && z) (lies_clip u c a b d.place ∙ sym (lies_clip v c e f d.place))

-- a dot within no limits is not visible
visible_none : (u : Surface) (c : Clip) → clip_empty c ≡ true → (d : Dot) → visible u c d ≡ false
unfolding visible
visible_none u c e d = and_false (something d.source) _ (lies_empty u c d.place e)

below_index : (n : ℕ) (z : ℤ) → below n z ≡ true → index z < n
below_index n (pos k) e = ltb-true k n e
below_index n (negsuc k) e = absurd (holds e)

-- where a visible dot lies
visible_inside : (u : Surface) (c : Clip) (d : Dot) → visible u c d ≡ true → (index d.place.x < u.width) × (index d.place.y < u.height)
unfolding visible
visible_inside u c d e =
    let p = both_true (something d.source) _ e in
    let x = both_true (below u.width d.place.x) _ p.1 in
    let y = both_true (below u.height d.place.y) _ x.1 in
    (below_index u.width d.place.x x.0, below_index u.height d.place.y y.0)

module _ (g : Geometry) (r : Row) {xmax ymax bits : ℕ} (c : Clip) {s : Scissor} (h : Landing g r (bitmap.Pane xmax ymax bits) c s) where
  -- the scissor's limits, on the screen from the corner on, are bitmap and clip
  visible_landing : (d : Dot) → visible (screen_from g r) (limits_of r s) d ≡ visible (pane_surface g r) c d
  unfolding screen_from pane_surface limits_of clip_outside
  visible_landing d = split (clip_empty c)
      (λ e. let is = h.scissor ∙ scissor_none r xmax ymax bits c e in
      ap (λ (z : Scissor). visible (screen_from g r) (limits_of r z) d) is
      ∙ visible_none (screen_from g r) no_limits refl d ∙ sym (visible_none (pane_surface g r) c e d))
      (λ e. let is = h.scissor ∙ scissor_some r xmax ymax bits c e in
      let p = rule_broken_pane g r xmax ymax bits h.rule in
      let w = clip_beyond_says xmax ymax c h.clip in
      ap (λ (z : Scissor). visible (screen_from g r) (limits_of r z) d) is
      ∙ ap (λ (z : Clip). visible (screen_from g r) z d) (limits_some r c e)
      ∙ visible_either (screen_from g r) (pane_surface g r) c (omega (arith, h.right, p.width, w.right))
      (omega (arith, h.bottom, p.height, w.bottom)) (omega (arith, p.width, w.right)) (omega (arith, p.height, w.bottom)) d)

  -- they lie in the pane
  pub limits_within : 0 < r.width → 0 < r.height → ((limits_of r s).xmax < r.width) × ((limits_of r s).ymax < r.height)
  unfolding limits_of clip_outside
  limits_within wide tall = split (clip_empty c)
      (λ e. subst (λ (z : Scissor). ((limits_of r z).xmax < r.width) × ((limits_of r z).ymax < r.height))
      (sym (h.scissor ∙ scissor_none r xmax ymax bits c e)) (wide, tall))
      (λ e. let p = rule_broken_pane g r xmax ymax bits h.rule in
      let w = clip_beyond_says xmax ymax c h.clip in
      subst (λ (z : Clip). (z.xmax < r.width) × (z.ymax < r.height))
      (sym (ap (limits_of r) (h.scissor ∙ scissor_some r xmax ymax bits c e) ∙ limits_some r c e))
      (omega (arith, p.width, w.right), omega (arith, p.height, w.bottom)))

  hit_landing : (p : Pane) (d : Dot) → visible (pane_surface g r) c d ≡ true → (m : Canvas)
      → hit (target_in (landing_area g r (bitmap.Pane xmax ymax bits)) (limits_of r s) p) d m ≡ hit (target_in (area_of g r (bitmap.Pane xmax ymax bits)) c p) d m
  unfolding hit place_shift screen_from pane_surface surface_of
  hit_landing p d e m = go p.flags.picking
    where
      go : (picking : Bool)
          → counted (changed_unless picking true (screen_from g r) (change_of (screen_from g r) p.pen d) m)
          ≡ counted (changed_unless picking true (pane_surface g r) (change_of (pane_surface g r) p.pen d) m)
      go true = refl
      go false =
          let o = visible_inside (pane_surface g r) c d e in
          ap (λ (l : List ℕ). counted (canvas l m.store m.hits))
          (change_landing g r h.right h.bottom (index d.place.x) (index d.place.y) o.0 o.1 _ m.screen)

-- ## Lists of dots

module _ (g : Geometry) (r : Row) (p : Pane) where
  painted_by : (b : Bitmap) (c : Clip) (s : Scissor) → Landing g r b c s → (d : Dot) (m : Canvas)
      → painted (target_in (landing_area g r b) (landing_clip r b s c) p) d m ≡ painted (target_in (area_of g r b) c p) d m
  unfolding painted surface_of
  painted_by bitmap.Absent c s h d m = refl
  painted_by (bitmap.Pane xmax ymax bits) c s h d m =
      ap (λ (z : Bool). cond z (hit (target_in (landing_area g r (bitmap.Pane xmax ymax bits)) (limits_of r s) p) d m) m) (visible_landing g r c h d)
      ∙ split (visible (pane_surface g r) c d)
      (λ e. cond_true _ _ e ∙ hit_landing g r c h p d e m ∙ sym (cond_true _ _ e))
      (λ e. cond_false _ _ e ∙ sym (cond_false _ _ e))
  painted_by (bitmap.Store a xmax ymax bits) c s h d m = refl

  -- what is drawn within the scissor is what is drawn in bitmap and clip
  pub painted_all_landing : Landing g r p.bitmap p.clip p.scissor → (ds : List Dot) (m : Canvas)
      → painted_all (target_of g r p) ds m ≡ painted_all (target_in (area_of g r p.bitmap) p.clip p) ds m
  unfolding painted_all target_of
  painted_all_landing h [] m = refl
  painted_all_landing h (d ∷ ds) m =
      ap (painted_all (target_of g r p) ds) (painted_by p.bitmap p.clip p.scissor h d m)
      ∙ painted_all_landing h ds (painted (target_in (area_of g r p.bitmap) p.clip p) d m)
