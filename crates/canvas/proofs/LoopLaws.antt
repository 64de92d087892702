-- The invariants of loops that draw. A loop that paints dot by dot, or list by list: the dots of its first k steps are painted. A loop that
-- carries out a drawing part by part: what is left of it, drawn on what the buffers are now, gives the whole.
use mathlib.Core.Path.{◌≡◌, refl, sym, ap, subst, ◌∙◌}
use mathlib.Core.Bool.{Bool, true, false, ◌||◌}
use mathlib.Core.List.{List, []}
use Prim.Native.Nat.{ℕ, ◌+◌, ◌*◌, ◌≤◌, ◌<◌}
use native.Mathlib.Omega.{arith}
use lib.ListN.{length}
use Rattle.model.specs.Ranges.{listed, joined}
use Rattle.model.specs.Words.{word_at}
use Rattle.model.specs.declared.Point.{Point}
use Rattle.model.specs.Dots.{Dot, Drawing, drawing, prepended}
use Rattle.model.specs.Glyphs.{trapping}
use Rattle.canvas.specs.declared.Target.{Target}
use Rattle.canvas.specs.declared.Drawn.{Drawn}
use Rattle.canvas.specs.Canvas.{Canvas, canvas, painted, painted_all, Painted, Drew, Reach}
use Rattle.canvas.specs.Targets.{Ready}
use Rattle.canvas.proofs.CanvasLaws.{SameLengths, painted_all_append, painted_all_none, painted_all_joined}
use Rattle.canvas.proofs.KeptLaws.{Agree, agree_refl, agree_painted, agree_word}
use Rattle.canvas.proofs.TargetLaws.{ready_laid}
use Rattle.canvas.proofs.PaintLaws.{lengths_painted, ready_painted, hits_painted, painted_next}

-- ## Step by step

-- `dots k` are the dots of the first k of n steps, on the canvas c₀; c is the canvas now
pub record Painting (t : Target) (dots : ℕ → List Dot) (c₀ c : Canvas) (k n : ℕ) : Type 0 where
  pub drawn : Painted t (dots k) c₀ c
  pub turn : k ≤ n

module _ {t : Target} {dots : ℕ → List Dot} (c₀ : Canvas) {c : Canvas} {k n : ℕ} (p : Painting t dots c₀ c k n) where
  pub painting_lengths : SameLengths c₀ c
  painting_lengths = lengths_painted t (dots k) c₀ p.drawn

  pub painting_ready : Ready t (length c₀.screen) (length c₀.store) → Ready t (length c.screen) (length c.store)
  painting_ready = ready_painted t (dots k) c₀ p.drawn

  pub painting_hits : c.hits ≤ c₀.hits + length (dots k)
  painting_hits = hits_painted t (dots k) c₀ p.drawn

  pub painting_done : k ≡ n → Painted t (dots n) c₀ c
  painting_done e = subst (λ (m : ℕ). Painted t (dots m) c₀ c) e p.drawn

-- one dot more
pub painting_dot : {t : Target} (f : ℕ → Dot) (c₀ : Canvas) {c c' : Canvas} {d : Dot} {k n : ℕ}
    → Painting t (λ k. listed 0 k f) c₀ c k n → k < n → d ≡ f k → c' ≡ painted t d c
    → Painting t (λ k. listed 0 k f) c₀ c' (k + 1) n
painting_dot {t} f c₀ {k = k} p l q e = record { drawn = painted_next t k f c₀ p.drawn q e; turn = omega arith }

-- one list of dots more
pub painting_list : {t : Target} (f : ℕ → List Dot) (c₀ : Canvas) {c c' : Canvas} {k n : ℕ}
    → Painting t (λ k. joined 0 k f) c₀ c k n → k < n → Painted t (f k) c c'
    → Painting t (λ k. joined 0 k f) c₀ c' (k + 1) n
painting_list {t} f c₀ {k = k} p l e = record {
  drawn = e ∙ ap (painted_all t (f k)) p.drawn ∙ sym (painted_all_joined t k f c₀);
  turn = omega arith;
}

-- ## Part by part

-- at the head of step k of n: the rest drawn gives the whole, the store reads beside the bitmap as it did, and each step had at most so many
-- dots
pub record Underway (t : Target) (whole rest : Drawing) (most : ℕ) (c₀ : Canvas) (screen store : List ℕ) (d : Drawn) (k n : ℕ) : Type 0 where
  pub dots : painted_all t rest.dots (canvas screen store d.hits) ≡ painted_all t whole.dots c₀
  pub position : rest.position ≡ whole.position
  pub trap : (d.trap || rest.trap) ≡ whole.trap
  pub agree : Agree t c₀.store store
  pub lengths : SameLengths c₀ (canvas screen store d.hits)
  pub few : d.hits ≤ c₀.hits + most * k
  pub turn : k ≤ n

pub underway_first : (t : Target) (whole : Drawing) (most : ℕ) (screen store : List ℕ) (from : Point) (n : ℕ)
    → Underway t whole whole most (canvas screen store 0) screen store (record { position = from; trap = false; hits = 0 }) 0 n
underway_first t whole most screen store from n = record {
  dots = refl;
  position = refl;
  trap = refl;
  agree = agree_refl t store;
  lengths = record { screen = refl; store = refl };
  few = omega arith;
  turn = omega arith;
}

or_assoc : (a b c : Bool) → ((a || b) || c) ≡ (a || (b || c))
or_assoc true b c = refl
or_assoc false b c = refl

pub or_none : (a : Bool) → (a || false) ≡ a
or_none true = refl
or_none false = refl

module _ {t : Target} {whole rest : Drawing} {most : ℕ} {c₀ : Canvas} {screen store : List ℕ} {d : Drawn} {k n : ℕ}
    (u : Underway t whole rest most c₀ screen store d k n) where
  pub underway_ready : Ready t (length c₀.screen) (length c₀.store) → Ready t (length screen) (length store)
  underway_ready h = rw (u.lengths.screen, u.lengths.store) h

  -- one step: its dots, and whether it sets the trap flag
  pub underway_next : (rest' : Drawing) {screen' store' : List ℕ} {d' : Drawn} → Ready t (length c₀.screen) (length c₀.store)
      → (ds : List Dot) (trap : Bool) → length ds ≤ most → rest ≡ trapping trap (prepended ds rest') → d'.trap ≡ (d.trap || trap) → k < n
      → Painted t ds (canvas screen store d.hits) (canvas screen' store' d'.hits)
      → Underway t whole rest' most c₀ screen' store' d' (k + 1) n
  underway_next rest' r ds trap f e g l p = record {
    dots =
        ap (painted_all t rest'.dots) p
        ∙ sym (painted_all_append t ds rest'.dots (canvas screen store d.hits))
        ∙ ap (λ (w : Drawing). painted_all t w.dots (canvas screen store d.hits)) (sym e)
        ∙ u.dots;
    position = ap (λ (w : Drawing). w.position) (sym e) ∙ u.position;
    trap =
        ap (λ (b : Bool). b || rest'.trap) g ∙ or_assoc d.trap trap rest'.trap
        ∙ ap (λ (w : Drawing). d.trap || w.trap) (sym e) ∙ u.trap;
    agree =
        subst (λ (c : Canvas). Agree t c₀.store c.store) (sym p)
        (agree_painted t (ready_laid r) ds (canvas screen store d.hits) c₀.store u.agree);
    lengths =
        let s = lengths_painted t ds (canvas screen store d.hits) p in
        record { screen = s.screen ∙ u.lengths.screen; store = s.store ∙ u.lengths.store };
    few = omega (arith, hits_painted t ds (canvas screen store d.hits) p, u.few);
    turn = omega arith;
  }

  -- nothing is left
  pub underway_last : rest ≡ drawing [] d.position → Drew t whole c₀ d screen store
  underway_last e = record {
    dots =
        sym (painted_all_none t (canvas screen store d.hits))
        ∙ ap (λ (w : Drawing). painted_all t w.dots (canvas screen store d.hits)) (sym e) ∙ u.dots;
    position = ap (λ (w : Drawing). w.position) (sym e) ∙ u.position;
    trap = sym (or_none d.trap) ∙ ap (λ (w : Drawing). d.trap || w.trap) (sym e) ∙ u.trap;
  }

  -- a word in reach reads as it did at entry
  pub underway_word : {at size : ℕ} → Reach t (length c₀.store) at size → (j : ℕ) → at ≤ j → j + 1 < at + size
      → word_at store j ≡ word_at c₀.store j
  underway_word r j lo hi = agree_word u.agree r j lo hi

-- ## A whole drawing

module _ {t : Target} {w : Drawing} {c : Canvas} {d : Drawn} {screen store : List ℕ} (h : Drew t w c d screen store) where
  pub drew_lengths : SameLengths c (canvas screen store d.hits)
  drew_lengths = lengths_painted t w.dots c h.dots

  pub drew_hits : d.hits ≤ c.hits + length w.dots
  drew_hits = hits_painted t w.dots c h.dots
