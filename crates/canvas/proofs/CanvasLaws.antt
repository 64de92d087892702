-- Laws of dots on a canvas: lists of dots one after the other, what they keep, and what model's plan of a drawing says of them.
use mathlib.Core.Path.{◌≡◌, refl, sym, ap, ◌∙◌}
use mathlib.Core.Bool.{Bool, true, false, cond, not}
use mathlib.Core.List.{List, [], ◌∷◌, ◌++◌, append-nil, append_assoc}
use Prim.Native.Nat.{ℕ, zero, suc, ◌+◌, ◌*◌, ◌≤◌}
use native.Mathlib.Nat.{zero-add}
use native.Mathlib.Numerals.{add-one}
use native.Mathlib.Omega.{arith}
use lib.ListN.{length, length-append}
use Rattle.model.specs.Ranges.{listed, joined}
use Rattle.model.specs.Words.{digit}
use Rattle.model.specs.declared.Surface.{Surface}
use Rattle.model.specs.Pixels.{Change, change, changes}
use Rattle.model.specs.Dots.{Dot, visible, hits, change_of, keep, changes_of}
use Rattle.model.proofs.Decisions.{cond_ind}
use Rattle.model.proofs.BitLaws.{digit_le}
use Rattle.model.proofs.CallLaws.{change_length}
use Rattle.model.proofs.DotLaws.{listed_last}
use Rattle.canvas.specs.declared.Target.{Target}
use Rattle.canvas.specs.Canvas.{Canvas, canvas, changed_unless, counted, hit, painted, painted_all}

-- ## Lists of dots

pub painted_all_append : (t : Target) (l m : List Dot) (c : Canvas) → painted_all t (l ++ m) c ≡ painted_all t m (painted_all t l c)
unfolding painted_all
painted_all_append t [] m c = refl
painted_all_append t (d ∷ l) m c = painted_all_append t l m (painted t d c)

-- a loop's step: n + 1 dots are n dots and then the next
pub painted_all_next : (t : Target) (n : ℕ) (f : ℕ → Dot) (c : Canvas)
    → painted_all t (listed 0 (n + 1) f) c ≡ painted t (f n) (painted_all t (listed 0 n f) c)
unfolding painted_all
painted_all_next t n f c =
    ap (λ (m : ℕ). painted_all t (listed 0 m f) c) (add-one n)
    ∙ ap (λ (l : List Dot). painted_all t l c) (listed_last n 0 f)
    ∙ painted_all_append t (listed 0 n f) (f (0 + n) ∷ []) c
    ∙ ap (λ (m : ℕ). painted t (f m) (painted_all t (listed 0 n f) c)) (zero-add n)

-- .. and so for lists of dots, one after the other
pub joined_last : {A : Type 0} (n i : ℕ) (f : ℕ → List A) → joined i (suc n) f ≡ joined i n f ++ f (i + n)
unfolding joined
joined_last zero i f = append-nil (f i) ∙ ap f (let e : i ≡ i + 0 = omega arith in e)
joined_last (suc n) i f =
    ap (λ r. f i ++ r) (joined_last n (suc i) f ∙ ap (λ (k : ℕ). joined (suc i) n f ++ f k) (let e : suc i + n ≡ i + suc n = omega arith in e))
    ∙ sym (append_assoc (f i) (joined (suc i) n f) (f (i + suc n)))

pub painted_all_joined : (t : Target) (n : ℕ) (f : ℕ → List Dot) (c : Canvas)
    → painted_all t (joined 0 (n + 1) f) c ≡ painted_all t (f n) (painted_all t (joined 0 n f) c)
painted_all_joined t n f c =
    ap (λ (m : ℕ). painted_all t (joined 0 m f) c) (add-one n)
    ∙ ap (λ (l : List Dot). painted_all t l c) (joined_last n 0 f)
    ∙ painted_all_append t (joined 0 n f) (f (0 + n)) c
    ∙ ap (λ (m : ℕ). painted_all t (f m) (painted_all t (joined 0 n f) c)) (zero-add n)

pub painted_all_none : (t : Target) (c : Canvas) → painted_all t [] c ≡ c
unfolding painted_all
painted_all_none t c = refl

-- ## What holds of each dot holds of a list

changed_ind : (P : Canvas → Type 0) (picking pane : Bool) (s : Surface) (ch : Change) (c : Canvas)
    → P c → P (canvas (change s ch c.screen) c.store c.hits) → P (canvas c.screen (change s ch c.store) c.hits)
    → P (changed_unless picking pane s ch c)
changed_ind P true pane s ch c p q r = p
changed_ind P false true s ch c p q r = q
changed_ind P false false s ch c p q r = r

-- the buffers' lengths
pub record SameLengths (c e : Canvas) : Type 0 where
  pub screen : length e.screen ≡ length c.screen
  pub store : length e.store ≡ length c.store

pub painted_lengths : (t : Target) (d : Dot) (c : Canvas) → SameLengths c (painted t d c)
unfolding painted hit
painted_lengths t d c = cond_ind (SameLengths c) (visible t.area.surface t.clip d) _ _
    (λ e. changed_ind (λ (z : Canvas). SameLengths c (counted z)) t.picking t.area.onscreen t.area.surface _ c
    (record { screen = refl; store = refl }) (record { screen = change_length _ _ _; store = refl }) (record { screen = refl; store = change_length _ _ _ }))
    (λ e. record { screen = refl; store = refl })

pub painted_all_lengths : (t : Target) (ds : List Dot) (c : Canvas) → SameLengths c (painted_all t ds c)
unfolding painted_all
painted_all_lengths t [] c = record { screen = refl; store = refl }
painted_all_lengths t (d ∷ ds) c =
    let a = painted_lengths t d c in
    let b = painted_all_lengths t ds (painted t d c) in
    record { screen = b.screen ∙ a.screen; store = b.store ∙ a.store }

-- ## How many dots were visible

painted_hits : (t : Target) (d : Dot) (c : Canvas) → (painted t d c).hits ≡ c.hits + digit (visible t.area.surface t.clip d)
unfolding painted hit
painted_hits t d c = go (visible t.area.surface t.clip d)
  where
    unchanged : (picking pane : Bool) (s : Surface) (ch : Change) → (changed_unless picking pane s ch c).hits ≡ c.hits
    unchanged true pane s ch = refl
    unchanged false true s ch = refl
    unchanged false false s ch = refl

    go : (v : Bool) → (cond v (counted (changed_unless t.picking t.area.onscreen t.area.surface (change_of t.area.surface t.pen d) c)) c).hits
        ≡ c.hits + digit v
    go true = ap (λ (n : ℕ). n + 1) (unchanged t.picking t.area.onscreen t.area.surface _)
    go false = omega arith

pub painted_all_hits : (t : Target) (ds : List Dot) (c : Canvas) → (painted_all t ds c).hits ≡ c.hits + hits t.area.surface t.clip ds
unfolding painted_all hits
painted_all_hits t [] c = omega arith
painted_all_hits t (d ∷ ds) c = omega (arith, painted_all_hits t ds (painted t d c), painted_hits t d c)

pub hits_length : (t : Target) (ds : List Dot) → hits t.area.surface t.clip ds ≤ length ds
unfolding hits
hits_length t [] = omega arith
hits_length t (d ∷ ds) = omega (arith, hits_length t ds, digit_le (visible t.area.surface t.clip d))

pub listed_length : {A : Type 0} (i n : ℕ) (f : ℕ → A) → length (listed i n f) ≡ n
unfolding listed
listed_length i zero f = refl
listed_length i (suc n) f = ap suc (listed_length (suc i) n f)

-- so many lists of at most so many
pub joined_length : {A : Type 0} (i n most : ℕ) (f : ℕ → List A) → ((k : ℕ) → length (f k) ≤ most) → length (joined i n f) ≤ n * most
unfolding joined
joined_length i zero most f h = omega arith
joined_length i (suc n) most f h =
    omega (arith, length-append (f i) (joined (suc i) n f), h i, joined_length (suc i) n most f h, one_more)
  where
    one_more : suc n * most ≡ most + n * most
    one_more = omega arith

-- ## Each buffer

-- changes are made in a buffer if the bitmap lies here, and none in pick mode
abbrev pub changes_if : Bool → Bool → Surface → List Change → List ℕ → List ℕ
changes_if true here s cs l = l
changes_if false true s cs l = changes s cs l
changes_if false false s cs l = l

-- a visible dot's change is made first
changes_if_keep : (picking pane v : Bool) (s : Surface) (ch : Change) (cs : List Change) (c : Canvas)
    → (changes_if picking pane s cs (cond v (counted (changed_unless picking pane s ch c)) c).screen ≡ changes_if picking pane s (keep v ch cs) c.screen)
    × (changes_if picking (not pane) s cs (cond v (counted (changed_unless picking pane s ch c)) c).store
    ≡ changes_if picking (not pane) s (keep v ch cs) c.store)
unfolding changes
changes_if_keep true pane true s ch cs c = (refl, refl)
changes_if_keep true pane false s ch cs c = (refl, refl)
changes_if_keep false true true s ch cs c = (refl, refl)
changes_if_keep false true false s ch cs c = (refl, refl)
changes_if_keep false false true s ch cs c = (refl, refl)
changes_if_keep false false false s ch cs c = (refl, refl)

module _ (t : Target) where
  pub painted_all_screen : (ds : List Dot) (c : Canvas)
      → (painted_all t ds c).screen ≡ changes_if t.picking t.area.onscreen t.area.surface (changes_of t.area.surface t.clip t.pen ds)
      c.screen
  unfolding painted_all changes_of painted hit changes
  painted_all_screen [] c = none t.picking t.area.onscreen
    where
      none : (picking here : Bool) → c.screen ≡ changes_if picking here t.area.surface [] c.screen
      none true here = refl
      none false true = refl
      none false false = refl
  painted_all_screen (d ∷ ds) c = painted_all_screen ds (painted t d c)
      ∙ (changes_if_keep t.picking t.area.onscreen (visible t.area.surface t.clip d) t.area.surface (change_of t.area.surface t.pen d)
      (changes_of t.area.surface t.clip t.pen ds) c).0

  pub painted_all_store : (ds : List Dot) (c : Canvas)
      → (painted_all t ds c).store ≡ changes_if t.picking (not t.area.onscreen) t.area.surface (changes_of t.area.surface t.clip t.pen ds)
      c.store
  unfolding painted_all changes_of painted hit changes
  painted_all_store [] c = none t.picking (not t.area.onscreen)
    where
      none : (picking here : Bool) → c.store ≡ changes_if picking here t.area.surface [] c.store
      none true here = refl
      none false true = refl
      none false false = refl
  painted_all_store (d ∷ ds) c = painted_all_store ds (painted t d c)
      ∙ (changes_if_keep t.picking t.area.onscreen (visible t.area.surface t.clip d) t.area.surface (change_of t.area.surface t.pen d)
      (changes_of t.area.surface t.clip t.pen ds) c).1
