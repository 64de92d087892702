-- A transfer in place: values read row by row are those that stood there before, if no row is drawn on before it is
-- read. Within a row all values are read first.
use Rattle.std.proofs.Common.{◌≡◌, ℕ, ◌+◌, ◌/◌, ◌%◌, ◌<◌, ◌≤◌, Bool, true, false, cond, ltb, ◌≢◌, ◌⊎◌, List, get_or}
use Rattle.std.proofs.Common.{pos, refl, ap, ◌∙◌, inl, inr, arith, ltb-false, ltb-true}
use Rattle.model.specs.declared.Surface.{Surface}
use Rattle.model.specs.declared.Source.TheVariants.{Copied}
use Rattle.model.specs.Coordinates.{at}
use Rattle.model.specs.Ranges.{listed}
use Rattle.model.specs.Words.{bit, num, field_at}
use Rattle.model.specs.Bitmaps.{place_bit, inside, pixels, Fits}
use Rattle.model.specs.Pixels.{Change, change}
use Rattle.model.specs.Dots.{Dot, dot, visible, change_of}
use Rattle.model.proofs.Decisions.{cond_ind}
use Rattle.raster.proofs.ChangeLaws.{pixels_kept}
use Rattle.bitmaps.specs.declared.areas.Area.{Area}
use Rattle.canvas.specs.declared.Target.{Target}
use Rattle.canvas.specs.Canvas.{Canvas, changed_unless, hit, painted, painted_all}
use Rattle.canvas.proofs.CanvasLaws.{SameLengths, painted_lengths, painted_all_none, painted_all_next}
use Rattle.canvas.proofs.KeptLaws.{change_byte}
use Rattle.canvas.proofs.OrderLaws.{painted_swap}
use Rattle.bitmaps.specs.Areas.{rows_end}
use Rattle.row_copies.specs.declared.operators.Operator.{Operator}
use Rattle.draw_copies.specs.Steps.{steps}
use Rattle.draw_copies.specs.Transfers.{buffer_of, patch_dot, moved_row, moved_all}
use Rattle.draw_copies.specs.declared.Patch.{Patch}
use Rattle.draw_copies.specs.declared.Transfer.{Transfer}
use Rattle.draw_copies.proofs.StepLaws.{steps_are, steps_agree, steps_keep, steps_swap, Stays, Commute, Before, in_place}

-- ## One dot, in the buffer of an area

-- a dot leaves a buffer as it was, or with a change, that only where the target lies in it
changed_buffer : (P : List ℕ → Type 0) (picking at here : Bool) (s : Surface) (ch : Change) (c : Canvas) → P (cond here c.screen c.store)
    → (here ≡ at → P (change s ch (cond here c.screen c.store)))
    → P (cond here (changed_unless picking at s ch c).screen (changed_unless picking at s ch c).store)
changed_buffer P true at here s ch c p q = p
changed_buffer P false true true s ch c p q = q refl
changed_buffer P false true false s ch c p q = p
changed_buffer P false false true s ch c p q = p
changed_buffer P false false false s ch c p q = q refl

painted_buffer : (P : List ℕ → Type 0) (t : Target) (a : Area) (d : Dot) (c : Canvas) → P (buffer_of a c)
    → (a.onscreen ≡ t.area.onscreen → P (change t.area.surface (change_of t.area.surface t.pen d) (buffer_of a c)))
    → P (buffer_of a (painted t d c))
unfolding painted hit
painted_buffer P t a d c p q = cond_ind (λ (z : Canvas). P (buffer_of a z)) (visible t.area.surface t.clip d) _ _
    (λ e. changed_buffer P t.picking t.area.onscreen a.onscreen t.area.surface (change_of t.area.surface t.pen d) c p q) (λ e. p)

-- ## Two dots at different places

-- a value drawn at (x,y) of the target
abbrev pub painted_at : Target → ℕ → ℕ → ℕ → Canvas → Canvas
painted_at t x y v c = painted t (dot (at (pos x) (pos y)) (Copied v)) c

painted_at_swap : (t : Target) (x y v x' y' v' : ℕ) (c : Canvas) → Fits t.area.surface (buffer_of t.area c) → (x ≢ x') ⊎ (y ≢ y')
    → painted_at t x y v (painted_at t x' y' v' c) ≡ painted_at t x' y' v' (painted_at t x y v c)
painted_at_swap t x y v x' y' v' c f n = painted_swap t (dot (at (pos x) (pos y)) (Copied v)) (dot (at (pos x') (pos y')) (Copied v')) c f (λ a b. n)

-- ## A patch, all values as a reader has them

-- dots one after the other are steps
pub listed_steps : (t : Target) (f : ℕ → Dot) (n : ℕ) (c : Canvas) → painted_all t (listed 0 n f) c ≡ steps (λ i. painted t (f i)) n c
unfolding listed
listed_steps t f = steps_are (λ n. painted_all t (listed 0 n f)) (λ i. painted t (f i)) (painted_all_none t) (λ n. painted_all_next t n f)

-- row j
unfoldable pub painted_row : Target → (ℕ → ℕ → ℕ) → Patch → ℕ → Canvas → Canvas
painted_row t see p j c = steps (λ i. painted_at t (p.x + i) (p.y + j) (see (p.sx + i) (p.sy + j))) p.wide c

-- all rows, from the top
unfoldable pub painted_patch : Target → (ℕ → ℕ → ℕ) → Patch → Canvas → Canvas
painted_patch t see p c = steps (painted_row t see p) p.high c

-- ## In place

pub lengths_on : {c d e : Canvas} → SameLengths c d → SameLengths d e → SameLengths c e
lengths_on a b = record { screen = b.screen ∙ a.screen; store = b.store ∙ a.store }

pub lengths_refl : (c : Canvas) → SameLengths c c
lengths_refl c = record { screen = refl; store = refl }

-- what an area shows on a canvas
abbrev pub shown_on : Area → Canvas → ℕ → ℕ → ℕ
shown_on a c = pixels a.surface (buffer_of a c)

-- drawing column i and row j of a transfer keeps column i' and row j' of its source, on canvases of the
-- lengths of c
abbrev KeptBy : Target → Transfer → Canvas → ℕ → ℕ → ℕ → ℕ → Type 0
KeptBy t m c i j i' j' = (v : ℕ) (z : Canvas) → SameLengths c z
    → shown_on m.source (painted_at t (m.patch.x + i) (m.patch.y + j) v z) (m.patch.sx + i') (m.patch.sy + j')
    ≡ shown_on m.source z (m.patch.sx + i') (m.patch.sy + j')

-- the target lies in its buffer, on every canvas of the lengths of c
abbrev pub TargetFits : Target → Canvas → Type 0
TargetFits t c = (z : Canvas) → SameLengths c z → Fits t.area.surface (buffer_of t.area z)

module _ (t : Target) (m : Transfer) (c : Canvas) (fits : TargetFits t c)
    (rows : (i j i' j' : ℕ) → i < m.patch.wide → i' < m.patch.wide → j < m.patch.high → j' < m.patch.high → Before m.up j j'
    → KeptBy t m c i j i' j') where
  abbrev p : Patch
  p = m.patch

  -- the source as it was before
  abbrev see : ℕ → ℕ → ℕ
  see = shown_on m.source c

  -- column i and row j, with its value from there
  pixel : ℕ → ℕ → Canvas → Canvas
  pixel j i z = painted_at t (p.x + i) (p.y + j) (see (p.sx + i) (p.sy + j)) z

  -- a value of the source still stands
  Stands : ℕ → ℕ → Canvas → Type 0
  Stands j i z = shown_on m.source z (p.sx + i) (p.sy + j) ≡ see (p.sx + i) (p.sy + j)

  pixel_stays : (j : ℕ) → Stays (SameLengths c) (pixel j) p.wide
  unfolding pixel
  pixel_stays j k l z i = lengths_on i (painted_lengths t _ z)

  pixel_swap : (j j' i i' : ℕ) → (i ≢ i') ⊎ (j ≢ j') → (z : Canvas) → SameLengths c z → pixel j i (pixel j' i' z) ≡ pixel j' i' (pixel j i z)
  unfolding pixel
  pixel_swap j j' i i' n z s = painted_at_swap t _ _ _ _ _ _ z (fits z s) (further n)
    where
      further : (i ≢ i') ⊎ (j ≢ j') → (p.x + i ≢ p.x + i') ⊎ (p.y + j ≢ p.y + j')
      further (inl a) = inl (omega arith)
      further (inr a) = inr (omega arith)

  row_moved : (j : ℕ) → j < p.high → (z : Canvas) → SameLengths c z → ((i : ℕ) → i < p.wide → Stands j i z)
      → moved_row t m j z ≡ painted_row t see p j z
  unfolding moved_row painted_row Stands
  row_moved j h z s r =
      let drawn : ℕ → Canvas → Canvas = λ i. painted_at t (p.x + i) (p.y + j) (see (p.sx + i) (p.sy + j)) in
      listed_steps t (patch_dot (shown_on m.source z) p j) p.wide z
      ∙ steps_agree (λ i. painted t (patch_dot (shown_on m.source z) p j i)) drawn p.wide z
      (λ i l. ap (λ (v : ℕ). painted_at t (p.x + i) (p.y + j) v (steps drawn i z)) (r i l))

  row_stays : Stays (SameLengths c) (painted_row t see p) p.high
  unfolding painted_row pixel
  row_stays j l z s = steps_keep (SameLengths c) (pixel j) p.wide z (pixel_stays j) s

  row_keeps : (j k : ℕ) → j < p.high → k < p.high → Before m.up j k → (z : Canvas) → SameLengths c z
      → ((i : ℕ) → i < p.wide → Stands k i z) → (i : ℕ) → i < p.wide → Stands k i (painted_row t see p j z)
  unfolding painted_row pixel Stands
  row_keeps j k a b f z s r i l =
      (steps_keep (λ (n : Canvas). SameLengths c n × Stands k i n) (pixel j) p.wide z
      (λ q y n w. (pixel_stays j q y n w.0, rows q j i k y l a b f (see (p.sx + q) (p.sy + j)) n w.0 ∙ w.1)) (s, r i l)).1

  rows_swap : Commute (SameLengths c) (painted_row t see p) p.high
  unfolding painted_row pixel
  rows_swap j k a b d z s = steps_swap (SameLengths c) (pixel j) (pixel k) p.wide z (pixel_stays j) (pixel_stays k)
      (λ i q e f. pixel_swap j k i q (inr d)) s

  all_moved : moved_all t m c ≡ painted_patch t see p c
  unfolding moved_all painted_patch Stands
  all_moved =
      in_place (SameLengths c) (moved_row t m) (painted_row t see p) (λ j z. (i : ℕ) → i < p.wide → Stands j i z) m.up p.high
      row_stays row_moved row_keeps rows_swap c (lengths_refl c) (λ j l i h. refl)

-- ## Within one bitmap

-- an order of rows in which none is drawn on before it is read
abbrev pub ReadFirst : Patch → Bool → Type 0
ReadFirst p up = (j k : ℕ) → Before up j k → p.sy + k ≢ p.y + j

-- up if the copy goes down, and down if not
pub read_first : (p : Patch) → ReadFirst p (ltb p.sy p.y)
read_first p j k b = by (ltb p.sy p.y) refl b
  where
    by : (up : Bool) → ltb p.sy p.y ≡ up → Before up j k → p.sy + k ≢ p.y + j
    by true e f q = let l = ltb-true p.sy p.y e in omega arith
    by false e f q = let l = ltb-false p.sy p.y e in omega arith

-- a patch of a source, its rows from the bottom or from the top
abbrev pub transfer : Area → Patch → Bool → Operator → Transfer
transfer a p up operator = record { source = a; patch = p; up = up; operator = operator }

module _ (t : Target) (p : Patch) (up : Bool) (operator : Operator) (c : Canvas) (fits : TargetFits t c) where
  other_kept : (i j i' j' : ℕ) → p.sy + j' ≢ p.y + j → KeptBy t (transfer t.area p up operator) c i j i' j'
  other_kept i j i' j' n v z s =
      painted_buffer (λ (l : List ℕ). pixels t.area.surface l (p.sx + i') (p.sy + j') ≡ shown_on t.area z (p.sx + i') (p.sy + j'))
      t t.area (dot (at (pos (p.x + i)) (pos (p.y + j))) (Copied v)) z refl
      (λ e. pixels_kept t.area.surface (buffer_of t.area z) (fits z s) _ (p.sx + i') (p.sy + j') (inr n))

  pub moved_within : ReadFirst p up → moved_all t (transfer t.area p up operator) c ≡ painted_patch t (shown_on t.area c) p c
  moved_within first = all_moved t (transfer t.area p up operator) c fits (λ i j i' j' a b d e f. other_kept i j i' j' (first j j' f))

-- ## From another bitmap

-- a pixel's value is fixed by its byte
pixels_byte : (u : Surface) (l m : List ℕ) (x y : ℕ) → get_or l (place_bit u x y / 8) 0 ≡ get_or m (place_bit u x y / 8) 0 → pixels u l x y ≡ pixels u m x y
unfolding pixels field_at
pixels_byte u l m x y e = ap (λ (z : ℕ). cond (inside u x y) (num u.bits (λ i. bit z (place_bit u x y % 8 + i))) 0) e

-- a byte that is none of a surface's rows
abbrev pub Aside : Surface → ℕ → Type 0
Aside s k = (k < s.base) ⊎ (rows_end s ≤ k)

-- a patch whose bytes are aside from the target
module _ (t : Target) (m : Transfer) (c : Canvas) (fits : TargetFits t c)
    (aside : m.source.onscreen ≡ t.area.onscreen → (i j : ℕ) → i < m.patch.wide → j < m.patch.high
    → Aside t.area.surface (place_bit m.source.surface (m.patch.sx + i) (m.patch.sy + j) / 8)) where
  aside_kept : (i j i' j' : ℕ) → i' < m.patch.wide → j' < m.patch.high → KeptBy t m c i j i' j'
  aside_kept i j i' j' a b v z s =
      let f = fits z s in
      let u = m.source.surface in
      let x = m.patch.sx + i' in
      let y = m.patch.sy + j' in
      painted_buffer (λ (l : List ℕ). pixels u l x y ≡ shown_on m.source z x y)
      t m.source (dot (at (pos (m.patch.x + i)) (pos (m.patch.y + j))) (Copied v)) z refl
      (λ e. pixels_byte u _ _ x y
      (change_byte t.area.surface _ (buffer_of m.source z) (record { depth = f.depth; right = f.right }) (place_bit u x y / 8) (aside e i' j' a b)))

  pub moved_apart : moved_all t m c ≡ painted_patch t (shown_on m.source c) m.patch c
  moved_apart = all_moved t m c fits
      (λ i j i' j' a b d e f. aside_kept i j i' j' b e)
