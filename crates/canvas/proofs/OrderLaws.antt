-- Dots at different places may be painted in either order, so a grid of dots may be painted row by row or column by column.
use mathlib.Core.Path.{◌≡◌, refl, sym, ap, ◌∙◌}
use mathlib.Core.Logic.{◌≢◌, ◌⊎◌, inr}
use mathlib.Core.Bool.{Bool, true, false, cond}
use mathlib.Core.List.{List}
use Prim.Native.Nat.{ℕ, zero, suc, ◌+◌, ◌<◌}
use native.Mathlib.Numerals.{add-one}
use native.Mathlib.Omega.{arith}
use lib.IntN.{ℤ, pos, negsuc}
use Rattle.model.specs.Ranges.{listed, joined}
use Rattle.model.specs.Coordinates.{index}
use Rattle.model.specs.Bitmaps.{Fits}
use Rattle.model.specs.declared.Clip.{Clip}
use Rattle.model.specs.declared.Surface.{Surface}
use Rattle.model.specs.Pixels.{Change, change}
use Rattle.model.specs.Dots.{Dot, something, below, lies, visible, change_of}
use Rattle.model.proofs.Decisions.{holds, both_true}
use Rattle.raster.proofs.ChangeLaws.{change_comm}
use Rattle.canvas.specs.declared.Target.{Target}
use Rattle.canvas.specs.Canvas.{Canvas, canvas, changed_unless, counted, hit, painted, painted_all}
use Rattle.canvas.proofs.BufferLaws.{buffer_length}
use Rattle.canvas.proofs.CanvasLaws.{SameLengths, painted_all_lengths, painted_all_none, painted_all_next, painted_all_joined}

-- ## Two dots

changed_swap : (picking here : Bool) (s : Surface) (a b : Change) (c : Canvas)
    → change s a (change s b (cond here c.screen c.store)) ≡ change s b (change s a (cond here c.screen c.store))
    → counted (changed_unless picking here s a (counted (changed_unless picking here s b c)))
    ≡ counted (changed_unless picking here s b (counted (changed_unless picking here s a c)))
changed_swap true here s a b c e = refl
changed_swap false true s a b c e = ap (λ (l : List ℕ). canvas l c.store (c.hits + 1 + 1)) e
changed_swap false false s a b c e = ap (λ (l : List ℕ). canvas c.screen l (c.hits + 1 + 1)) e

cond_swap : (v w : Bool) (f g : Canvas → Canvas) (c : Canvas) → (v ≡ true → w ≡ true → f (g c) ≡ g (f c))
    → cond v (f (cond w (g c) c)) (cond w (g c) c) ≡ cond w (g (cond v (f c) c)) (cond v (f c) c)
cond_swap true true f g c e = e refl refl
cond_swap true false f g c e = refl
cond_swap false true f g c e = refl
cond_swap false false f g c e = refl

-- where two dots are both visible, they are at different places
abbrev pub Apart : Target → Dot → Dot → Type 0
Apart t a b = visible t.area.surface t.clip a ≡ true → visible t.area.surface t.clip b ≡ true
    → (index a.place.x ≢ index b.place.x) ⊎ (index a.place.y ≢ index b.place.y)

-- the bitmap lies in its buffer
abbrev pub Laid : Target → Canvas → Type 0
Laid t c = Fits t.area.surface (cond t.area.onscreen c.screen c.store)

pub painted_swap : (t : Target) (a b : Dot) (c : Canvas) → Laid t c → Apart t a b → painted t a (painted t b c) ≡ painted t b (painted t a c)
unfolding painted hit
painted_swap t a b c l n =
    let s = t.area.surface in
    cond_swap (visible s t.clip a) (visible s t.clip b) (hit t a) (hit t b) c
    (λ v w. changed_swap t.picking t.area.onscreen s (change_of s t.pen a) (change_of s t.pen b) c
    (change_comm s (cond t.area.onscreen c.screen c.store) l _ _ (n v w)))

-- a coordinate of the bitmap is its index
in_rows : (n : ℕ) (z : ℤ) → below n z ≡ true → z ≡ pos (index z)
in_rows n (pos k) h = refl
in_rows n (negsuc k) h = absurd (holds h)

visible_row : (s : Surface) (clip : Clip) (d : Dot) → visible s clip d ≡ true → d.place.y ≡ pos (index d.place.y)
unfolding visible
visible_row s clip d h =
    let p = d.place in
    let l = (both_true (something d.source) (lies s clip p) h).1 in
    let r = (both_true (below s.width p.x) _ l).1 in
    in_rows s.height p.y (both_true (below s.height p.y) _ r).0

-- dots in different rows
pub rows_apart : (t : Target) (a b : Dot) → a.place.y ≢ b.place.y → Apart t a b
rows_apart t a b n v w = inr (λ e. n (visible_row _ _ a v ∙ ap pos e ∙ sym (visible_row _ _ b w)))

-- ## Lists of dots

module _ (t : Target) where
  laid_same : (c e : Canvas) → SameLengths c e → Laid t c → Laid t e
  laid_same c e s f = record {
    depth = f.depth;
    right = f.right;
    long = rw (buffer_length t.area.onscreen e.screen e.store, s.screen, s.store, ← (buffer_length t.area.onscreen c.screen c.store))
        f.long;
  }

  laid_all : (ds : List Dot) (c : Canvas) → Laid t c → Laid t (painted_all t ds c)
  laid_all ds c = laid_same c (painted_all t ds c) (painted_all_lengths t ds c)

  list_none : (f : ℕ → Dot) (c : Canvas) → painted_all t (listed 0 0 f) c ≡ c
  unfolding listed
  list_none f c = painted_all_none t c

  joined_none : (f : ℕ → List Dot) (c : Canvas) → painted_all t (joined 0 0 f) c ≡ c
  unfolding joined
  joined_none f c = painted_all_none t c

  list_next : (n : ℕ) (f : ℕ → Dot) (c : Canvas) → painted_all t (listed 0 (suc n) f) c ≡ painted t (f n) (painted_all t (listed 0 n f) c)
  list_next n f c = rw (← add-one n) (painted_all_next t n f c)

  joined_next : (n : ℕ) (f : ℕ → List Dot) (c : Canvas) → painted_all t (joined 0 (suc n) f) c ≡ painted_all t (f n) (painted_all t (joined 0 n f) c)
  joined_next n f c = rw (← add-one n) (painted_all_joined t n f c)

  -- a dot before n others, or behind them
  dot_past : (a : Dot) (f : ℕ → Dot) (n : ℕ) (c : Canvas) → Laid t c → ((k : ℕ) → k < n → Apart t (f k) a)
      → painted_all t (listed 0 n f) (painted t a c) ≡ painted t a (painted_all t (listed 0 n f) c)
  dot_past a f zero c l h = list_none f (painted t a c) ∙ ap (painted t a) (sym (list_none f c))
  dot_past a f (suc n) c l h =
      list_next n f (painted t a c)
      ∙ ap (painted t (f n)) (dot_past a f n c l (λ k b. h k (omega arith)))
      ∙ painted_swap t (f n) a (painted_all t (listed 0 n f) c) (laid_all (listed 0 n f) c l) (h n (omega arith))
      ∙ ap (painted t a) (sym (list_next n f c))

  -- m dots before n others, or behind them
  lists_swap : (f g : ℕ → Dot) (n m : ℕ) (c : Canvas) → Laid t c → ((k i : ℕ) → k < n → i < m → Apart t (f k) (g i))
      → painted_all t (listed 0 n f) (painted_all t (listed 0 m g) c) ≡ painted_all t (listed 0 m g) (painted_all t (listed 0 n f) c)
  lists_swap f g n zero c l h = ap (painted_all t (listed 0 n f)) (list_none g c) ∙ sym (list_none g (painted_all t (listed 0 n f) c))
  lists_swap f g n (suc m) c l h =
      ap (painted_all t (listed 0 n f)) (list_next m g c)
      ∙ dot_past (g m) f n (painted_all t (listed 0 m g) c) (laid_all (listed 0 m g) c l) (λ k b. h k m b (omega arith))
      ∙ ap (painted t (g m)) (lists_swap f g n m c l (λ k i b e. h k i b (omega arith)))
      ∙ sym (list_next m g (painted_all t (listed 0 n f) c))

  -- ## A grid of dots

  module _ (d : ℕ → ℕ → Dot) where
    -- row i begins with these, and goes on with one more
    abbrev row : ℕ → ℕ → List Dot
    row n i = listed 0 n (d i)

    rows_empty : (m : ℕ) (c : Canvas) → painted_all t (joined 0 m (row 0)) c ≡ c
    rows_empty zero c = joined_none (row 0) c
    rows_empty (suc m) c = joined_next m (row 0) c ∙ list_none (d m) (painted_all t (joined 0 m (row 0)) c) ∙ rows_empty m c

    -- the last column of all rows may be painted last
    last_column : (n m : ℕ) (c : Canvas) → Laid t c
        → ((i k j : ℕ) → i < k → k < m → j < n → Apart t (d k j) (d i n))
        → painted_all t (joined 0 m (row (suc n))) c ≡ painted_all t (listed 0 m (λ i. d i n)) (painted_all t (joined 0 m (row n)) c)
    last_column n zero c l h =
        joined_none (row (suc n)) c ∙ sym (list_none (λ i. d i n) (painted_all t (joined 0 0 (row n)) c) ∙ joined_none (row n) c)
    last_column n (suc m) c l h =
        let x = painted_all t (joined 0 m (row n)) c in
        joined_next m (row (suc n)) c
        ∙ ap (painted_all t (row (suc n) m)) (last_column n m c l (λ i k j a b. h i k j a (omega arith)))
        ∙ list_next n (d m) (painted_all t (listed 0 m (λ i. d i n)) x)
        ∙ ap (painted t (d m n)) (lists_swap (d m) (λ i. d i n) n m x (laid_all (joined 0 m (row n)) c l) (λ j i b a. h i m j a (omega arith) b))
        ∙ sym (list_next m (λ i. d i n) (painted_all t (row n m) x))
        ∙ ap (painted_all t (listed 0 (suc m) (λ i. d i n))) (sym (joined_next m (row n) c))

    -- n columns of m dots, and m rows of n, if dots in different rows are apart
    pub grid_turned : (n m : ℕ) (c : Canvas) → Laid t c → ((i k j l : ℕ) → i < k → k < m → Apart t (d k j) (d i l))
        → painted_all t (joined 0 n (λ j. listed 0 m (λ i. d i j))) c ≡ painted_all t (joined 0 m (λ i. listed 0 n (d i))) c
    grid_turned zero m c l h = joined_none (λ j. listed 0 m (λ i. d i j)) c ∙ sym (rows_empty m c)
    grid_turned (suc n) m c l h =
        joined_next n (λ j. listed 0 m (λ i. d i j)) c
        ∙ ap (painted_all t (listed 0 m (λ i. d i n))) (grid_turned n m c l h)
        ∙ sym (last_column n m c l (λ i k j a b e. h i k j n a b))
