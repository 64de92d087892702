-- What a target's promise gives, and what one visible or invisible dot does.
use mathlib.Core.Path.{◌≡◌, refl, sym, ap, ◌∙◌}
use mathlib.Core.Bool.{Bool, true, false, cond}
use mathlib.Core.List.{List}
use Prim.Native.Nat.{ℕ, ◌+◌, ◌≤◌}
use native.Mathlib.Omega.{arith}
use borrow.Author.Tests.{lt-ltb, le-leb, leb-true}
use lib.Dec.{leb}
use lib.IntN.{ℤ, pos, negsuc}
use lib.ListN.{length}
use Rattle.model.specs.declared.Surface.{Surface}
use Rattle.model.specs.declared.Source.{Source}
use Rattle.model.specs.declared.Source.TheVariants as source
use Rattle.model.specs.Coordinates.{at, between, index, Place}
use Rattle.model.specs.Pixels.{Change, change}
use Rattle.model.specs.Dots.{Dot, dot, something, below, visible}
use Rattle.model.proofs.Decisions.{split, cond_true, cond_false, both_true, both_of, and_false, and_left}
use Rattle.raster.specs.Place.{Drawable}
use Rattle.coordinates.specs.Offsets.{index_in}
use Rattle.std.specs.Prelude.{Some, None}
use Rattle.canvas.specs.declared.Target.{Target}
use Rattle.canvas.specs.Canvas.{Canvas, canvas, changed_unless, counted, hit, painted}
use Rattle.canvas.specs.Targets.{Ready, InClip, change_with}
use Rattle.canvas.proofs.KeptLaws.{Laid}

-- ## The promise

pub ready_laid : {t : Target} {m n : ℕ} → Ready t m n → Laid t.area.surface
ready_laid h = record { depth = h.depth; right = h.right }

-- lengths kept keep the promise
pub ready_on : {t : Target} {m n m' n' : ℕ} → m' ≡ m → n' ≡ n → Ready t m n → Ready t m' n'
ready_on e f h = rw (e, f) h

module _ {t : Target} {m n : ℕ} (h : Ready t m n) {x y : ℕ} (i : InClip t x y) where
  -- a pixel of the clip can be drawn in the buffer that holds the bitmap
  pub drawable : (l : List ℕ) → cond t.area.onscreen m n ≡ length l → Drawable t.area.surface l x y
  drawable l e = record {
    fits = record { depth = h.depth; right = h.right; long = omega (arith, h.long, e) };
    small = h.small;
    column = omega (arith, h.east, i.east);
    row = omega (arith, h.south, i.south);
  }

  pub clip_visible : (s : Source) → something s ≡ true → visible t.area.surface t.clip (dot (at (pos x) (pos y)) s) ≡ true
  unfolding visible
  clip_visible s e =
      both_of e (both_of (lt-ltb x t.area.surface.width (omega (arith, h.east, i.east)))
      (both_of (lt-ltb y t.area.surface.height (omega (arith, h.south, i.south)))
      (both_of (both_of (le-leb t.clip.xmin x i.west) (le-leb x t.clip.xmax i.east))
      (both_of (le-leb t.clip.ymin y i.north) (le-leb y t.clip.ymax i.south)))))

  -- a dot of the clip that is something
  pub painted_hit : (s : Source) → something s ≡ true → (c : Canvas)
      → painted t (dot (at (pos x) (pos y)) s) c ≡ counted (changed_unless t.picking t.area.onscreen t.area.surface (change_with t s x y) c)
  unfolding painted hit
  painted_hit s e c = cond_true _ _ (clip_visible s e)

-- ## A dot that is not visible

pub painted_nothing : (t : Target) (p : Place) (c : Canvas) → painted t (dot p source.Nothing) c ≡ c
unfolding painted visible
painted_nothing t p c = refl

-- a coordinate outside the clip's is no index
index_outside : (lo hi : ℕ) (z : ℤ) → index_in lo hi z ≡ None → between lo hi z ≡ false
unfolding index_in
index_outside lo hi z e = split (between lo hi z)
    (λ b. let a : Some (index z) ≡ None = sym (cond_true (Some (index z)) None b)
    ∙ e in let n : ◌≡◌ {A = ℕ} 0 1 = cc in absurd (let f : ⊥ = omega arith in f))
    (λ b. b)

pub painted_outside_x : (t : Target) (d : Dot) (c : Canvas) → index_in t.clip.xmin t.clip.xmax d.place.x ≡ None → painted t d c ≡ c
unfolding painted visible
painted_outside_x t d c e = cond_false _ _
    (and_false (something d.source) _ (and_false (below t.area.surface.width d.place.x) _
    (and_false (below t.area.surface.height d.place.y) _
    (and_left (between t.clip.xmin t.clip.xmax d.place.x) (between t.clip.ymin t.clip.ymax d.place.y)
    (index_outside _ _ d.place.x e)))))

pub painted_outside_y : (t : Target) (d : Dot) (c : Canvas) → index_in t.clip.ymin t.clip.ymax d.place.y ≡ None → painted t d c ≡ c
unfolding painted visible
painted_outside_y t d c e = cond_false _ _
    (and_false (something d.source) _ (and_false (below t.area.surface.width d.place.x) _
    (and_false (below t.area.surface.height d.place.y) _
    (and_false (between t.clip.xmin t.clip.xmax d.place.x) (between t.clip.ymin t.clip.ymax d.place.y)
    (index_outside _ _ d.place.y e)))))

-- ## A coordinate that is an index

pub record Clipped (lo hi : ℕ) (z : ℤ) (k : ℕ) : Type 0 where
  pub low : lo ≤ k
  pub high : k ≤ hi
  pub is : z ≡ pos k

index_cases : (lo hi : ℕ) (z : ℤ) (k : ℕ) → between lo hi z ≡ true → Some (index z) ≡ Some k → Clipped lo hi z k
index_cases lo hi (pos j) k b e =
    let q : j ≡ k = cc in
    let w = both_true (leb lo j) (leb j hi) b in
    record { low = omega (arith, leb-true lo j w.0); high = omega (arith, leb-true j hi w.1); is = ap pos q }
index_cases lo hi (negsuc j) k b e = let n : ◌≡◌ {A = ℕ} 0 1 = cc in absurd (let f : ⊥ = omega arith in f)

pub index_clipped : (lo hi : ℕ) (z : ℤ) (k : ℕ) → index_in lo hi z ≡ Some k → Clipped lo hi z k
unfolding index_in
index_clipped lo hi z k e = split (between lo hi z)
    (λ b. index_cases lo hi z k b (sym (cond_true (Some (index z)) None b) ∙ e))
    (λ b. let a : None ≡ Some k = sym (cond_false (Some (index z)) None b) ∙ e in let n : ◌≡◌ {A = ℕ} 0 1 = cc in absurd (let f : ⊥ = omega arith in f))

-- ## A change, by the flags

pub changed_picking : (p q : Bool) (s : Surface) (ch : Change) (c : Canvas) → p ≡ true → changed_unless p q s ch c ≡ c
changed_picking p q s ch c e = rw e

pub changed_pane : (p q : Bool) (s : Surface) (ch : Change) (a b : List ℕ) (h : ℕ) → p ≡ false → q ≡ true
    → changed_unless p q s ch (canvas a b h) ≡ canvas (change s ch a) b h
changed_pane p q s ch a b h e f = rw (e, f)

pub changed_store : (p q : Bool) (s : Surface) (ch : Change) (a b : List ℕ) (h : ℕ) → p ≡ false → q ≡ false
    → changed_unless p q s ch (canvas a b h) ≡ canvas a (change s ch b) h
changed_store p q s ch a b h e f = rw (e, f)

-- the count goes along
changed_hits : (p q : Bool) (s : Surface) (ch : Change) (a b : List ℕ) (h : ℕ)
    → canvas (changed_unless p q s ch (canvas a b 0)).screen (changed_unless p q s ch (canvas a b 0)).store (h + 1)
    ≡ counted (changed_unless p q s ch (canvas a b h))
changed_hits true q s ch a b h = refl
changed_hits false true s ch a b h = refl
changed_hits false false s ch a b h = refl

pub counted_put : (p q : Bool) (s : Surface) (ch : Change) (a b a' b' : List ℕ) (h : ℕ) → canvas a' b' 0 ≡ changed_unless p q s ch (canvas a b 0)
    → canvas a' b' (h + 1) ≡ counted (changed_unless p q s ch (canvas a b h))
counted_put p q s ch a b a' b' h e = ap (λ (z : Canvas). canvas z.screen z.store (h + 1)) e ∙ changed_hits p q s ch a b h
