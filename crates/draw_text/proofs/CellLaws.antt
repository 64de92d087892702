-- Cells as dots: a rotation's course leads each cell where the paper says, so that a descriptor's rows are its character's dots. A grid has the same
-- dots, in another order where rows go along y; and how many dots there are.
use Rattle.std.proofs.Common.{◌≡◌, ℕ, ◌+◌, ◌-◌, ◌*◌, ◌%◌, ◌^◌, ◌<◌, ◌≤◌, Bool, true, false, cond, eqb, ◌≢◌, List, length, get_or, set, ℤ, pos, ◌+ℤ◌}
use Rattle.std.proofs.Common.{◌-ℤ◌, neg_ℤ, sym, ap, ◌∙◌, ap₂, arith, get_or-set_other, get_or-set_same, lt-ltb, eqb-true}
use native.Mathlib.Decide.{ℕ_discrete}
use borrow.Author.Tests.{eqb-false}
use lib.IntN.{+ℤ_comm, +ℤ-neg_ℤ_cancel, neg_ℤ-neg_ℤ}
use Rattle.model.specs.Ranges.{listed, joined}
use Rattle.model.specs.Words.{bit, word_at}
use Rattle.model.specs.Coordinates.{Place, coord, index, place}
use Rattle.model.specs.declared.Point.{Point}
use Rattle.model.specs.declared.Pen.{Pen}
use Rattle.model.specs.Dots.{Dot, dot}
use Rattle.model.specs.Pixels.{pen_source}
use Rattle.model.specs.Glyphs.{height_of, width_of, cell_bit, rotated, glyph_dots}
use Rattle.model.proofs.Decisions.{split, cond_true, cond_false}
use Rattle.model.proofs.DotLaws.{listed_cong, joined_cong}
use Rattle.raster.proofs.BitLaws.{bit_mod, bit_shl}
use Rattle.coordinates.specs.Offsets.{directed}
use Rattle.grids.specs.Grids.{Transposed}
use Rattle.canvas.specs.declared.Target.{Target}
use Rattle.canvas.specs.Canvas.{canvas, painted_all}
use Rattle.canvas.specs.Targets.{Ready, place_on}
use Rattle.canvas.proofs.CanvasLaws.{listed_length, joined_length}
use Rattle.canvas.proofs.OrderLaws.{grid_turned, rows_apart}
use Rattle.spans.proofs.DrawLaws.{ready_fits}
use Rattle.draw_text.specs.declared.cells.CellStyle.{CellStyle}
use Rattle.draw_text.specs.declared.cells.Grid.{Grid}
use Rattle.draw_text.specs.Cells.{
  style_of,
  cell_offset,
  stored_dot,
  cells,
  most_columns,
  cell_dot,
  grid_row,
  rows_from,
  grid_dots,
  CellsOf,
  StoredCells,
  GridOf,
  GridFits,
}

-- ## Rotation

module _ (rotation : ℕ) (p : Point) (transparent : Bool) where
  -- where cell (i,j) falls
  abbrev fallen : ℕ → ℕ → Place
  fallen i j = let s = style_of rotation p transparent in place_on s.course (cell_offset s.sideways i j)

  -- by the rotation: 0, 90, 180, and what is left
  style_of_rotated : (i j : ℕ) → fallen i j ≡ rotated rotation (place p) i j
  unfolding rotated
  style_of_rotated i j = split (eqb rotation 0)
      (λ e. rw (eqb-true rotation 0 e))
      (λ e. split (eqb rotation 1)
      (λ f. rw (eqb-true rotation 1 f))
      (λ f. split (eqb rotation 2)
      (λ g. rw (eqb-true rotation 2 g))
      (λ g. beyond e f g)))
    where
      beyond : eqb rotation 0 ≡ false → eqb rotation 1 ≡ false → eqb rotation 2 ≡ false → fallen i j ≡ rotated rotation (place p) i j
      beyond e f g =
          let l : 2 < rotation = omega (arith, eqb-false rotation 0 e, eqb-false rotation 1 f, eqb-false rotation 2 g) in
          rw (e, f, g, lt-ltb 1 rotation (omega arith), lt-ltb 2 rotation l)

  -- a descriptor's rows are the dots of its character
  pub cells_glyph_dots : (pen : Pen) (store : List ℕ) (a : ℕ) {s : CellStyle} {head : ℕ} → s ≡ style_of rotation p transparent → head ≡ word_at store a
      → cells pen s store a head ≡ glyph_dots pen transparent rotation store a (place p)
  unfolding glyph_dots cell_bit
  cells_glyph_dots pen store a e h =
      let width = width_of (word_at store a) in
      ap₂ (λ (s : CellStyle) (w : ℕ). cells pen s store a w) e h
      ∙ (λ n. joined 0 (height_of (word_at store a))
      (λ j. listed 0 width (λ i. dot (style_of_rotated i j n) (pen_source pen transparent (cell_bit store a width i j)))))

-- ## How many cells there are

pub cells_length : (pen : Pen) (s : CellStyle) (store : List ℕ) (a head : ℕ) → length (cells pen s store a head) ≤ height_of head * most_columns
cells_length pen s store a head =
    joined_length 0 (height_of head) most_columns _
    (λ j. omega (arith, listed_length 0 (width_of head) (λ i. stored_dot pen s (width_of head) (word_at store (a + 2 + 2 * j)) i j)))

pub rows_length : (pen : Pen) (s : CellStyle) (g : Grid) → g.width ≤ most_columns → (n : ℕ) → length (rows_from pen s g 0 n) ≤ n * most_columns
rows_length pen s g w n = joined_length 0 n most_columns _ (λ j. omega (arith, listed_length 0 g.width (cell_dot pen s (grid_row g j))))

-- ## The grid of a character

-- x shifted left by k bits, in a word
shifted_bit : (x k i : ℕ) → k ≤ 16 → i < 16 - k → bit (x * 2 ^ k % 2 ^ 32 % 2 ^ 16) (k + i) ≡ bit x i
shifted_bit x k i h l =
    bit_mod 16 (x * 2 ^ k % 2 ^ 32) (k + i) (omega arith) ∙ bit_mod 32 (x * 2 ^ k) (k + i) (omega arith) ∙ bit_shl x k i

pub cells_are : (x width : ℕ) → width ≤ most_columns → CellsOf x width (x * 2 ^ (16 - width) % 2 ^ 32 % 2 ^ 16)
cells_are x width h = record {
  bits = λ i l.
      let e : 15 - i ≡ 16 - width + (width - 1 - i) = omega arith in
      ap (bit (x * 2 ^ (16 - width) % 2 ^ 32 % 2 ^ 16)) e ∙ shifted_bit x (16 - width) (width - 1 - i) (omega arith) (omega arith);
}

pub stored_next : (store : List ℕ) (a width n : ℕ) (cells : List ℕ) (v : ℕ) → StoredCells store a width n cells
    → CellsOf (word_at store (a + 2 + 2 * n)) width v → n < length cells → StoredCells store a width (n + 1) (set cells n v)
stored_next store a width n cells v s r h = record { row = λ j l. at j l (ℕ_discrete j n) }
  where
    at : (j : ℕ) → j < n + 1 → Dec (j ≡ n) → CellsOf (word_at store (a + 2 + 2 * j)) width (get_or (set cells n v) j 0)
    at j l (yes e) = rw (e, get_or-set_same cells n v 0 h) r
    at j l (no d) = rw (get_or-set_other cells n j v 0 d) (s.row j (omega arith))

-- rows as they are stored, and turned where they go along y
abbrev pub TurnedIf : Bool → List ℕ → List ℕ → Type 0
TurnedIf false cells r = r ≡ cells
TurnedIf true cells r = Transposed cells r

pub grid_is : (sideways : Bool) {store stored turned : List ℕ} {a head wide tall w h : ℕ} → wide ≡ width_of head → tall ≡ height_of head → wide ≤ 16 → tall ≤ 16
    → StoredCells store a wide tall stored → TurnedIf sideways stored turned → w ≡ cond sideways tall wide → h ≡ cond sideways wide tall
    → GridOf store sideways a head (record { cells = turned; width = w; height = h })
grid_is sideways {store} {stored} {turned} {a} {head} {wide} {tall} ew eh x y s t w h = record {
  width = w ∙ ap₂ (λ (m n : ℕ). cond sideways m n) eh ew;
  height = h ∙ ap₂ (λ (m n : ℕ). cond sideways m n) ew eh;
  cells = λ i j p q.
      turn sideways t i j (omega arith) (omega arith) ∙ (s.row j (omega arith)).bits i (omega arith)
      ∙ ap (λ (n : ℕ). bit (word_at store (a + 2 + 2 * j)) (n - 1 - i)) ew;
}
  where
    turn : (b : Bool) → TurnedIf b stored turned → (i j : ℕ) → i < 16 → j < 16
        → bit (get_or turned (cell_offset b i j).y 0) (15 - (cell_offset b i j).x) ≡ bit (get_or stored j 0) (15 - i)
    turn false e i j p q = ap (λ (l : List ℕ). bit (get_or l j 0) (15 - i)) e
    turn true e i j p q = e.cells j i q p

-- it has at most 16 rows of 16 cells
pub grid_fits : {store : List ℕ} {sideways : Bool} {a head : ℕ} {g : Grid} → GridOf store sideways a head g → GridFits g
grid_fits {sideways = sideways} {head = head} o = record {
  width = rw o.width (most sideways (height_of head) (width_of head) (omega arith) (omega arith));
  height = rw o.height (most sideways (width_of head) (height_of head) (omega arith) (omega arith));
}
  where
    most : (b : Bool) (m n : ℕ) → m ≤ 16 → n ≤ 16 → cond b m n ≤ 16
    most true m n p q = p
    most false m n p q = q

-- ## The dots of a grid are the character's

-- cells in different rows of a grid lie in different rows of the bitmap
directed_apart : (back : Bool) (i k : ℕ) → i < k → directed back k ≢ directed back i
directed_apart false i k l e = let z : k ≡ i = ap index e in let f : ⊥ = omega arith in f
directed_apart true i k l e =
    let z : k ≡ i = ap index (sym (neg_ℤ-neg_ℤ (pos k)) ∙ ap neg_ℤ e ∙ neg_ℤ-neg_ℤ (pos i)) in
    let f : ⊥ = omega arith in
    f

beyond_apart : (z : ℤ) (back : Bool) (i k : ℕ) → i < k → z +ℤ directed back k ≢ z +ℤ directed back i
beyond_apart z back i k l e =
    directed_apart back i k l
    (sym (+ℤ-neg_ℤ_cancel (directed back k) z) ∙ ap (λ (x : ℤ). x -ℤ z) (+ℤ_comm (directed back k) z ∙ e ∙ +ℤ_comm z (directed back i))
    ∙ +ℤ-neg_ℤ_cancel (directed back i) z)

-- cell (i,j) of the character
abbrev stored_cell : Pen → CellStyle → List ℕ → ℕ → ℕ → ℕ → ℕ → Dot
stored_cell pen style store a head i j = stored_dot pen style (width_of head) (word_at store (a + 2 + 2 * j)) i j

module _ (pen : Pen) (style : CellStyle) (store : List ℕ) (a head : ℕ) (g : Grid) where
  -- it is the grid's at its offset
  same_dot : (o : GridOf store style.sideways a head g) (i j : ℕ) → i < width_of head → j < height_of head
      → stored_cell pen style store a head i j
      ≡ cell_dot pen style (grid_row g (cell_offset style.sideways i j).y) (cell_offset style.sideways i j).x
  same_dot o i j p q =
      ap (λ (on : Bool). dot (place_on style.course (cell_offset style.sideways i j)) (pen_source pen style.transparent on)) (sym (o.cells i j p q))

  -- where rows go along x, the grid's rows are the character's
  level_dots : style.sideways ≡ false → GridOf store style.sideways a head g → grid_dots pen style g ≡ cells pen style store a head
  level_dots level o =
      let w : g.width ≡ width_of head = o.width ∙ cond_false _ _ level in
      let h : g.height ≡ height_of head = o.height ∙ cond_false _ _ level in
      rw (w, h) (joined_cong 0 (height_of head) _ _ (λ j p q. listed_cong 0 (width_of head) _ _
      (λ i x y. rw level (sym (rw level at (same_dot o i j (omega arith) (omega arith)))))))

  -- .. along y, they are its columns
  turned_dots : style.sideways ≡ true → GridOf store style.sideways a head g
      → grid_dots pen style g ≡ joined 0 (width_of head) (λ i. listed 0 (height_of head) (stored_cell pen style store a head i))
  turned_dots turned o =
      let w : g.width ≡ height_of head = o.width ∙ cond_true _ _ turned in
      let h : g.height ≡ width_of head = o.height ∙ cond_true _ _ turned in
      rw (w, h) (joined_cong 0 (width_of head) _ _ (λ i p q. listed_cong 0 (height_of head) _ _
      (λ j x y. rw turned (sym (rw turned at (same_dot o i j (omega arith) (omega arith)))))))

-- .. and may be painted as rows
pub grid_painted : (t : Target) (style : CellStyle) (screen store : List ℕ) (a head hits : ℕ) (g : Grid) → Ready t (length screen) (length store)
    → GridOf store style.sideways a head g
    → painted_all t (grid_dots t.pen style g) (canvas screen store hits) ≡ painted_all t (cells t.pen style store a head) (canvas screen store hits)
grid_painted t style screen store a head hits g r o = split style.sideways
    (λ e. ap (λ (ds : List Dot). painted_all t ds (canvas screen store hits)) (turned_dots t.pen style store a head g e o)
    ∙ sym (grid_turned t (stored_cell t.pen style store a head) (height_of head) (width_of head) (canvas screen store hits) (ready_fits screen store r)
    (λ i k j l x y. rows_apart t _ _ (apart e i k j l x))))
    (λ e. ap (λ (ds : List Dot). painted_all t ds (canvas screen store hits)) (level_dots t.pen style store a head g e o))
  where
    apart : style.sideways ≡ true → (i k j l : ℕ) → i < k
        → (stored_cell t.pen style store a head k j).place.y ≢ (stored_cell t.pen style store a head i l).place.y
    apart e i k j l x = rw e (beyond_apart (coord style.course.from.y) style.course.heading.up i k x)
