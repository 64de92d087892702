-- What dots keep: every byte of the store that is none of the active bitmap's. So an array of the store reads while it is drawn as it did before.
use mathlib.Core.Path.{◌≡◌, refl, ap₂, ◌∙◌}
use mathlib.Core.Logic.{◌⊎◌, inl, inr, ◌≢◌}
use mathlib.Core.Bool.{Bool, true, false}
use mathlib.Core.List.{List, [], ◌∷◌}
use Prim.Native.Nat.{ℕ, ◌+◌, ◌*◌, ◌/◌, ◌≤◌, ◌<◌}
use native.Mathlib.Omega.{arith}
use lib.ListN.{get_or}
use lib.Seq.{get_or-set_other}
use Rattle.model.specs.declared.Surface.{Surface}
use Rattle.model.specs.Words.{word_at, put_field}
use Rattle.model.specs.Bitmaps.{grid_bit, place_bit, inside, Depth}
use Rattle.model.specs.Pixels.{Change, change}
use Rattle.model.specs.Dots.{Dot, visible}
use Rattle.model.proofs.Decisions.{cond_ind}
use Rattle.model.proofs.PlaceLaws.{in_rows}
use Rattle.model.proofs.PixelLaws.{inside_true}
use Rattle.canvas.specs.declared.Target.{Target}
use Rattle.canvas.specs.Canvas.{Canvas, changed_unless, hit, painted, painted_all, Clear, Reach}
use Rattle.bitmaps.specs.Areas.{rows_end}

-- the surface's columns lie in its rows
pub record Laid (u : Surface) : Type 0 where
  pub depth : Depth u.bits
  pub right : (u.left + u.width) * u.bits ≤ 16 * u.words

-- a pixel's byte lies in the surface's bytes
place_low : (u : Surface) (x y : ℕ) → u.base ≤ place_bit u x y / 8
unfolding place_bit grid_bit
place_low u x y = omega arith

place_high : (u : Surface) (x y : ℕ) → Laid u → inside u x y ≡ true → place_bit u x y / 8 < rows_end u
unfolding place_bit
place_high u x y h e =
    let k = inside_true u x y e in
    in_rows u.base u.words u.bits h.depth (u.left + u.width) h.right (u.left + x) (u.top + y) (u.top + u.height) (omega arith)
    (omega arith)

-- a change touches the surface's bytes alone
pub change_byte : (u : Surface) (c : Change) (s : List ℕ) → Laid u → (j : ℕ) → (j < u.base) ⊎ (rows_end u ≤ j) → get_or (change u c s) j 0 ≡ get_or s j 0
unfolding change put_field
change_byte u c s h j o = cond_ind (λ (l : List ℕ). get_or l j 0 ≡ get_or s j 0) (inside u c.x c.y) _ _
    (λ e. get_or-set_other s (place_bit u c.x c.y / 8) j _ 0 (apart e o)) (λ e. refl)
  where
    apart : inside u c.x c.y ≡ true → (j < u.base) ⊎ (rows_end u ≤ j) → j ≢ place_bit u c.x c.y / 8
    apart e (inl l) q = let a = place_low u c.x c.y in omega arith
    apart e (inr l) q = let a = place_high u c.x c.y h e in omega arith

module _ (t : Target) (h : Laid t.area.surface) (j : ℕ) where
  changed_byte : (picking pane : Bool) → (pane ≡ true) ⊎ ((j < t.area.surface.base) ⊎ (rows_end t.area.surface ≤ j)) → (ch : Change) (c : Canvas)
      → get_or (changed_unless picking pane t.area.surface ch c).store j 0 ≡ get_or c.store j 0
  changed_byte true pane o ch c = refl
  changed_byte false true o ch c = refl
  changed_byte false false (inl e) ch c = let z : ◌≡◌ {A = ℕ} 0 1 = cc in absurd (let n : ⊥ = omega arith in n)
  changed_byte false false (inr o) ch c = change_byte t.area.surface ch c.store h j o

  painted_byte : Clear t j → (d : Dot) (c : Canvas) → get_or (painted t d c).store j 0 ≡ get_or c.store j 0
  unfolding painted hit
  painted_byte o d c = cond_ind (λ (z : Canvas). get_or z.store j 0 ≡ get_or c.store j 0) (visible t.area.surface t.clip d) _ _
      (λ e. changed_byte t.picking t.area.onscreen o _ c) (λ e. refl)

  pub painted_all_byte : Clear t j → (ds : List Dot) (c : Canvas) → get_or (painted_all t ds c).store j 0 ≡ get_or c.store j 0
  unfolding painted_all
  painted_all_byte o [] c = refl
  painted_all_byte o (d ∷ ds) c = painted_all_byte o ds (painted t d c) ∙ painted_byte o d c

-- a store whose bytes in reach are those of another
pub record Agree (t : Target) (old new : List ℕ) : Type 0 where
  pub bytes : (j : ℕ) → Clear t j → get_or new j 0 ≡ get_or old j 0

pub agree_refl : (t : Target) (l : List ℕ) → Agree t l l
agree_refl t l = record { bytes = λ j o. refl }

-- .. as dots leave them
pub agree_painted : (t : Target) → Laid t.area.surface → (ds : List Dot) (c : Canvas) (old : List ℕ) → Agree t old c.store
    → Agree t old (painted_all t ds c).store
agree_painted t h ds c old a = record { bytes = λ j o. painted_all_byte t h j o ds c ∙ a.bytes j o }

-- a word in reach
pub agree_word : {t : Target} {old new : List ℕ} {len at size : ℕ} → Agree t old new → Reach t len at size → (j : ℕ) → at ≤ j → j + 1 < at + size
    → word_at new j ≡ word_at old j
agree_word a r j lo hi =
    ap₂ (λ (x y : ℕ). x + 256 * y) (a.bytes j (r.clear j lo (omega arith))) (a.bytes (j + 1) (r.clear (j + 1) (omega arith) hi))
