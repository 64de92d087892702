-- Rows of a grid are short spans: their dots are the spans', drawn with another pattern and CHAR's transparency. The rows in the clip, drawn
-- one after the other, are all that is seen of a grid.
use Rattle.std.proofs.Common.{◌≡◌, ℕ, zero, suc, ◌+◌, ◌-◌, ◌*◌, ◌%◌, ◌^◌, ◌<◌, ◌≤◌, Bool, true, false, cond, ◌&&◌, ltb, leb, ◌⊎◌, List, [], ◌∷◌, ◌++◌}
use Rattle.std.proofs.Common.{length, get_or, ℤ, pos, negsuc, ◌+ℤ◌, sym, refl, ap, ◌∙◌, ap₂, inl, inr, append_assoc, add_assoc}
use Rattle.std.proofs.Common.{mul-le-mul_right, mul_comm, mul-le-mul_left, zero-add, arith}
use native.Mathlib.Decide.{dec_lt}
use lib.IntN.{+ℤ_idl}
use Rattle.model.specs.Ranges.{listed, joined}
use Rattle.model.specs.Words.{bit, digit}
use Rattle.model.specs.Coordinates.{coord, at, between, index}
use Rattle.model.specs.Pixels.{Change, pen_source, blend, change, changes}
use Rattle.model.specs.Dots.{Dot, dot, something, lies, visible, hits, keep, change_of, changes_of}
use Rattle.model.specs.declared.Clip.{Clip}
use Rattle.model.specs.declared.Pen.{Pen}
use Rattle.model.specs.declared.Surface.{Surface}
use Rattle.model.proofs.Decisions.{split, holds, and_false, and_left, cond_ind}
use Rattle.model.proofs.DotLaws.{lies_clip, listed_cong}
use Rattle.model.proofs.PlaceLaws.{depth_bounds}
use Rattle.coordinates.specs.Offsets.{directed, unbiased, Between}
use Rattle.coordinates.specs.declared.Edges.{Edges}
use Rattle.coordinates.proofs.EdgeLaws.{within_true, within_early, within_late, between_holds, coord_unbiased, unbiased_on, unbiased_back}
use Rattle.canvas.specs.declared.Target.{Target}
use Rattle.canvas.specs.declared.Course.{Course}
use Rattle.canvas.specs.Canvas.{Canvas, painted_all}
use Rattle.canvas.specs.Targets.{Ready}
use Rattle.canvas.proofs.CanvasLaws.{painted_all_append, painted_all_none, joined_last}
use Rattle.strips.specs.Strokes.{shown, pattern_on}
use Rattle.strips.specs.Stretches.{Stretched}
use Rattle.strips.proofs.FieldBits.{Bytes}
use Rattle.stencils.specs.Stencils.{RoomFor, stencilled}
use Rattle.grids.specs.Grids.{ones_in}
use Rattle.grids.proofs.GridLaws.{ones_in_last, ones_in_most}
use Rattle.spans.specs.declared.Span.{Span}
use Rattle.spans.specs.Spans.{span_dot, span_dots, span_changed, EdgesOf, Met, leftmost_of}
use Rattle.spans.specs.Through.{StencilFor}
use Rattle.spans.proofs.EdgesLaws.{row_inside}
use Rattle.spans.proofs.DrawLaws.{drawn_hits, unseen, ready_fits, part_through, index_unbiased}
use Rattle.draw_text.specs.declared.cells.CellStyle.{CellStyle}
use Rattle.draw_text.specs.declared.cells.CellRow.{CellRow}
use Rattle.draw_text.specs.declared.cells.Grid.{Grid}
use Rattle.draw_text.specs.declared.rows.RowPlan.{RowPlan}
use Rattle.draw_text.specs.Cells.{cell_dot, row_dots, grid_row, rows_from, grid_dots, RowFits, most_cells}
use Rattle.draw_text.specs.Rows.{cell_target, FirstSpan, Planned, row_y, RowsPlanned, SomeCells, seen_in, row_start, RowInside, RowsRoomy}

cond_same : {A : Type 0} (t : Bool) (a : A) → cond t a a ≡ a
cond_same true a = refl
cond_same false a = refl

-- ## Another pattern and transparency

-- dots are drawn with the pen's operation and mask alone
pen_changes : (t : Target) (transparent : Bool) (cells : ℕ) (ds : List Dot)
    → changes_of t.area.surface t.clip (cell_target t transparent cells).pen ds ≡ changes_of t.area.surface t.clip t.pen ds
unfolding changes_of blend
pen_changes t transparent cells [] = refl
pen_changes t transparent cells (d ∷ ds) =
    ap (keep (visible t.area.surface t.clip d) (change_of t.area.surface t.pen d)) (pen_changes t transparent cells ds)

source_same : (t : Target) (cells : ℕ) (transparent on : Bool)
    → pen_source t.pen transparent on ≡ pen_source (cell_target t transparent cells).pen transparent on
source_same t cells true true = refl
source_same t cells true false = refl
source_same t cells false true = refl
source_same t cells false false = refl

-- ## A row as a span

-- a coordinate in the clip, kept 65,536 larger
clip_row : (lo hi : ℕ) (z : ℤ) → between lo hi z ≡ true → unbiased (65536 + index z) ≡ z
clip_row lo hi (pos k) h = sym (unbiased_on 65536 k) ∙ +ℤ_idl (pos k)
clip_row lo hi (negsuc k) h = absurd (holds h)

-- the span of row j
abbrev pub row_span : CellStyle → RowPlan → ℕ → Span
row_span style p j =
    record { x = p.span.x; y = 65536 + index (row_y style.course j); left = p.span.left; count = p.span.count; index = p.span.index }

module _ (t : Target) (style : CellStyle) (row : CellRow) (plan : RowPlan) (p : Planned t style row.width plan) (fits : RowFits row)
    (in_clip : between t.clip.ymin t.clip.ymax (row_y style.course row.number) ≡ true) where
  abbrev aim : Target
  aim = cell_target t style.transparent row.cells

  abbrev span : Span
  span = row_span style plan row.number

  row_y_lem : row_y style.course row.number ≡ unbiased span.y
  row_y_lem = sym (clip_row _ _ (row_y style.course row.number) in_clip)

  row_dot : (k : ℕ) → k < row.width → cell_dot t.pen style row k ≡ span_dot aim.pen span k
  unfolding span_dot
  row_dot k l =
      let z : 15 - (plan.span.index + k) % 16 ≡ 15 - k = omega (arith, p.span.index, fits.width) in
      let s : pen_source t.pen style.transparent (bit row.cells (15 - k))
      ≡ pen_source aim.pen style.transparent (bit row.cells (15 - (plan.span.index + k) % 16))
      = source_same t row.cells style.transparent (bit row.cells (15 - k))
      ∙ ap (λ (i : ℕ). pen_source aim.pen style.transparent (bit row.cells i)) (sym z) in
      let x : coord style.course.from.x +ℤ directed style.course.heading.left k ≡ unbiased plan.span.x +ℤ directed plan.span.left k
      = ap₂ (λ (z : ℤ) (b : Bool). z +ℤ directed b k) (sym p.span.x) (sym p.span.left) in
      λ n. dot (at (x n) (row_y_lem n)) (s n)

  row_dots_lem : row_dots t.pen style row ≡ span_dots aim.pen span
  unfolding span_dots
  row_dots_lem =
      listed_cong 0 row.width _ _ (λ k a b. row_dot k (omega arith))
      ∙ ap (λ (n : ℕ). listed 0 n (span_dot aim.pen span)) (sym p.span.count)

  -- its changes are the span's
  row_changes : (b : List ℕ) → changes t.area.surface (changes_of t.area.surface t.clip aim.pen (span_dots aim.pen span)) b
      ≡ changes t.area.surface (changes_of t.area.surface t.clip t.pen (row_dots t.pen style row)) b
  row_changes b =
      ap (λ (cs : List Change). changes t.area.surface cs b) (pen_changes t style.transparent row.cells (span_dots aim.pen span))
      ∙ ap (λ (ds : List Dot). changes t.area.surface (changes_of t.area.surface t.clip t.pen ds) b) (sym row_dots_lem)

  module _ (east : t.clip.xmax < t.area.surface.width) (south : t.clip.ymax < t.area.surface.height) where
    row_edges : EdgesOf t.area.surface t.clip span plan.edges
    row_edges =
        let h = between_holds t.clip.ymin t.clip.ymax span.y (ap (between t.clip.ymin t.clip.ymax) (sym row_y_lem) ∙ in_clip) in
        row_inside t.area.surface t.clip east south span h.0 h.1 plan.edges p.columns

    -- how many of its cells are visible
    pub row_hits : hits t.area.surface t.clip (row_dots t.pen style row)
        ≡ cond style.transparent (shown (pattern_on row.cells) plan.edges.first (plan.edges.second - plan.edges.first))
        (plan.edges.second - plan.edges.first)
    row_hits =
        let z : plan.span.index + plan.edges.first ≡ plan.edges.first = omega (arith, p.span.index) in
        ap (hits t.area.surface t.clip) row_dots_lem
        ∙ drawn_hits t.area.surface t.clip span plan.edges east south row_edges p.some aim.pen
        ∙ ap (λ (k : ℕ). cond style.transparent (shown (pattern_on row.cells) k (plan.edges.second - plan.edges.first))
        (plan.edges.second - plan.edges.first)) z

    -- the stencil of the first row is this one's
    row_stencil : StencilFor aim span plan.edges plan.stencil
    row_stencil =
        let f = p.stencil in
        record {
          fore = f.fore;
          back = f.back;
          turn = f.turn;
          ones = record { bits = f.ones.bits };
          zeros = record { bits = f.zeros.bits };
          index = f.index;
          stencil = f.stencil;
        }

    -- the row drawn through the stencil
    pub row_drawn : (b new : List ℕ) → Ready t (length b) (length b) → (met : ℕ) → Met plan.span.left row.cells met → Bytes b → Bytes new
        → Stretched (stencilled plan.stencil met (row_start t style.course row.number)) (row_start t style.course row.number)
        (16 * plan.stencil.word + plan.stencil.lead) (16 * plan.stencil.word + plan.stencil.end) b new
        → new ≡ changes t.area.surface (changes_of t.area.surface t.clip t.pen (row_dots t.pen style row)) b
    unfolding span_changed
    row_drawn b new r met m bo bn q =
        let ready : Ready aim (length b) (length b) = record {
          depth = r.depth;
          right = r.right;
          small = r.small;
          long = r.long;
          near = r.near;
          east = r.east;
          south = r.south;
          table = r.table;
        } in
        let z : index (row_y style.course row.number) ≡ 65536 + index (row_y style.course row.number) - 65536 = omega arith in
        part_through aim span plan.edges b b ready row_edges p.some met row_stencil m
        (rw (cond_same t.area.onscreen b) at (ready_fits b b r)) bo bn (rw z at q)
        ∙ row_changes b

-- ## Rows one after the other

pub changes_append : (u : Surface) (clip : Clip) (pen : Pen) (l m : List Dot) (b : List ℕ)
    → changes u (changes_of u clip pen (l ++ m)) b ≡ changes u (changes_of u clip pen m) (changes u (changes_of u clip pen l) b)
unfolding changes changes_of
changes_append u clip pen [] m b = refl
changes_append u clip pen (d ∷ l) m b = split (visible u clip d)
    (λ e. rw e (changes_append u clip pen l m (change u (change_of u pen d) b)))
    (λ e. rw e (changes_append u clip pen l m b))

pub hits_append : (u : Surface) (clip : Clip) (l m : List Dot) → hits u clip (l ++ m) ≡ hits u clip l + hits u clip m
unfolding hits
hits_append u clip [] m = sym (zero-add (hits u clip m))
hits_append u clip (d ∷ l) m =
    let e = hits_append u clip l m in
    ap (λ (n : ℕ). digit (visible u clip d) + n) e ∙ sym (add_assoc (digit (visible u clip d)) (hits u clip l) (hits u clip m))

-- one row more
pub joined_more : {A : Type 0} (i k : ℕ) (f : ℕ → List A) → i ≤ k → joined i (k + 1 - i) f ≡ joined i (k - i) f ++ f k
joined_more i k f h =
    let e : k + 1 - i ≡ suc (k - i) = omega arith in
    let z : i + (k - i) ≡ k = omega arith in
    ap (λ (n : ℕ). joined i n f) e ∙ joined_last (k - i) i f ∙ ap (λ (j : ℕ). joined i (k - i) f ++ f j) z

joined_split : {A : Type 0} (n i m : ℕ) (f : ℕ → List A) → joined i (n + m) f ≡ joined i n f ++ joined (i + n) m f
unfolding joined
joined_split zero i m f = ap (λ (k : ℕ). joined i k f) (zero-add m) ∙ ap (λ (j : ℕ). joined j m f) (let e : i ≡ i + 0 = omega arith in e)
joined_split (suc n) i m f =
    let e : suc i + n ≡ i + suc n = omega arith in
    let z : suc n + m ≡ suc (n + m) = omega arith in
    ap (λ (k : ℕ). joined i k f) z
    ∙ ap (λ r. f i ++ r) (joined_split n (suc i) m f ∙ ap (λ (j : ℕ). joined (suc i) n f ++ joined j m f) e)
    ∙ sym (append_assoc (f i) (joined (suc i) n f) (joined (i + suc n) m f))

-- rows that draw nothing
rows_none : (t : Target) (f : ℕ → List Dot) (n i : ℕ) → ((j : ℕ) → i ≤ j → j < i + n → (c : Canvas) → painted_all t (f j) c ≡ c) → (c : Canvas)
    → painted_all t (joined i n f) c ≡ c
unfolding joined
rows_none t f zero i h c = painted_all_none t c
rows_none t f (suc n) i h c =
    painted_all_append t (f i) (joined (suc i) n f) c
    ∙ ap (painted_all t (joined (suc i) n f)) (h i (omega arith) (omega arith) c)
    ∙ rows_none t f n (suc i) (λ j a b. h j (omega arith) (omega arith)) c

-- of n rows only those from the first edge to below the second are seen
pub rows_cut : (t : Target) (f : ℕ → List Dot) (n : ℕ) (e : Edges) → e.first ≤ e.second → e.second ≤ n
    → ((j : ℕ) → j < n → (j < e.first) ⊎ (e.second ≤ j) → (c : Canvas) → painted_all t (f j) c ≡ c) → (c : Canvas)
    → painted_all t (joined e.first (e.second - e.first) f) c ≡ painted_all t (joined 0 n f) c
rows_cut t f n e a b dark c =
    let x : n ≡ e.first + (n - e.first) = omega arith in
    let y : n - e.first ≡ e.second - e.first + (n - e.second) = omega arith in
    sym (
    ap (λ (k : ℕ). painted_all t (joined 0 k f) c) x
    ∙ ap (λ (l : List Dot). painted_all t l c) (joined_split e.first 0 (n - e.first) f
    ∙ ap (λ (j : ℕ). joined 0 e.first f ++ joined j (n - e.first) f) (zero-add e.first))
    ∙ painted_all_append t (joined 0 e.first f) (joined e.first (n - e.first) f) c
    ∙ ap (painted_all t (joined e.first (n - e.first) f)) (rows_none t f e.first 0 (λ j l h. dark j (omega arith) (inl (omega arith))) c)
    ∙ ap (λ (k : ℕ). painted_all t (joined e.first k f) c) y
    ∙ ap (λ (l : List Dot). painted_all t l c) (joined_split (e.second - e.first) e.first (n - e.second) f)
    ∙ painted_all_append t (joined e.first (e.second - e.first) f) (joined (e.first + (e.second - e.first)) (n - e.second) f) c
    ∙ rows_none t f (n - e.second) (e.first + (e.second - e.first)) (λ j l h. dark j (omega arith) (inr (omega arith))) _
    )

-- ## The rows so far

module _ (u : Surface) (clip : Clip) (pen : Pen) (s : CellStyle) (g : Grid) (i k : ℕ) where
  pub changes_none : k ≡ i → (b : List ℕ) → b ≡ changes u (changes_of u clip pen (rows_from pen s g i (k - i))) b
  unfolding changes changes_of joined
  changes_none e b = let z : k - i ≡ 0 = omega arith in rw z refl

  pub changes_next : (old : List ℕ) {b new : List ℕ} → b ≡ changes u (changes_of u clip pen (rows_from pen s g i (k - i))) old
      → new ≡ changes u (changes_of u clip pen (row_dots pen s (grid_row g k))) b → i ≤ k
      → new ≡ changes u (changes_of u clip pen (rows_from pen s g i (k + 1 - i))) old
  changes_next old p q h =
      q ∙ ap (changes u (changes_of u clip pen (row_dots pen s (grid_row g k)))) p
      ∙ sym (changes_append u clip pen (rows_from pen s g i (k - i)) (row_dots pen s (grid_row g k)) old)
      ∙ ap (λ (ds : List Dot). changes u (changes_of u clip pen ds) old) (sym (joined_more i k (λ j. row_dots pen s (grid_row g j)) h))

-- how many cells of n rows, from row i on, are visible
count_none : (transparent : Bool) (cells : List ℕ) (e m i : ℕ) → 0 ≡ cond transparent (ones_in cells e m i 0) (m * 0)
unfolding ones_in
count_none true cells e m i = refl
count_none false cells e m i = omega arith

count_next : (transparent : Bool) (cells : List ℕ) (e m i n : ℕ)
    → cond transparent (ones_in cells e m i n) (m * n) + cond transparent (shown (pattern_on (get_or cells (i + n) 0)) e m) m
    ≡ cond transparent (ones_in cells e m i (suc n)) (m * suc n)
count_next true cells e m i n = sym (ones_in_last cells e m n i)
count_next false cells e m i n = let z : m * n + m ≡ m * suc n = omega arith in z

hits_none : (u : Surface) (clip : Clip) (f : ℕ → List Dot) (i : ℕ) → hits u clip (joined i 0 f) ≡ 0
unfolding hits joined
hits_none u clip f i = refl

module _ (t : Target) (style : CellStyle) (plan : RowPlan) (g : Grid) (planned : Planned t style g.width plan) (wide : g.width ≤ 16)
    (east : t.clip.xmax < t.area.surface.width) (south : t.clip.ymax < t.area.surface.height) where
  rows_hits : (n i : ℕ) → ((j : ℕ) → i ≤ j → j < i + n → (j < 16) × (between t.clip.ymin t.clip.ymax (row_y style.course j) ≡ true))
      → hits t.area.surface t.clip (rows_from t.pen style g i n)
      ≡ cond style.transparent (ones_in g.cells plan.edges.first (plan.edges.second - plan.edges.first) i n)
      ((plan.edges.second - plan.edges.first) * n)
  rows_hits zero i h =
      hits_none t.area.surface t.clip (λ j. row_dots t.pen style (grid_row g j)) i
      ∙ count_none style.transparent g.cells plan.edges.first (plan.edges.second - plan.edges.first) i
  rows_hits (suc n) i h =
      let here = h (i + n) (omega arith) (omega arith) in
      ap (hits t.area.surface t.clip) (joined_last n i (λ j. row_dots t.pen style (grid_row g j)))
      ∙ hits_append t.area.surface t.clip (rows_from t.pen style g i n) (row_dots t.pen style (grid_row g (i + n)))
      ∙ ap₂ (λ (a b : ℕ). a + b) (rows_hits n i (λ j a b. h j a (omega arith)))
      (row_hits t style (grid_row g (i + n)) plan planned (record { number = here.0; width = wide }) here.1 east south)
      ∙ count_next style.transparent g.cells plan.edges.first (plan.edges.second - plan.edges.first) i n

  -- what the code counts is how many cells of the rows in the clip are visible
  pub rows_seen : {f : Edges} → RowsPlanned t style plan f
      → hits t.area.surface t.clip (rows_from t.pen style g f.first (f.second - f.first)) ≡ seen_in style.transparent g.cells plan.edges f
  rows_seen {f} p = rows_hits (f.second - f.first) f.first (λ j a b. (omega (arith, p.last), p.inside j a (omega (arith, p.some))))

-- at most all of them
pub seen_most : (transparent : Bool) (cells : List ℕ) {e f : Edges} → SomeCells e f → seen_in transparent cells e f ≤ most_cells
seen_most transparent cells {e} {f} s = most transparent
  where
    m : ℕ
    m = e.second - e.first

    n : ℕ
    n = f.second - f.first

    area : n * m ≤ 16 * 16
    area =
        let a : n * m ≤ n * 16 = mul-le-mul_left n (omega (arith, s.width)) in
        let b : n ≤ 16 = omega (arith, s.height) in
        omega arith

    most : (b : Bool) → seen_in b cells e f ≤ most_cells
    most true = omega (arith, ones_in_most cells e.first m n f.first, area)
    most false = omega (arith, area, mul_comm m n)

-- ## The numbers of a row

-- where row j lies, in the bitmap's rows
row_index : (course : Course) (j : ℕ) → course.from.y < 65536 → j ≤ 32768
    → index (row_y course j) ≡ cond course.heading.up ((course.from.y + 32768) % 65536 + 32768 - j) ((course.from.y + 32768) % 65536 + 32768 + j) - 65536
row_index course j h l = split course.heading.up
    (λ e. rw e (ap (λ (z : ℤ). index (z +ℤ directed true j)) (coord_unbiased course.from.y h)
    ∙ ap index (unbiased_back ((course.from.y + 32768) % 65536 + 32768) j (omega arith)) ∙ index_unbiased _))
    (λ e. rw e (ap (λ (z : ℤ). index (z +ℤ directed false j)) (coord_unbiased course.from.y h)
    ∙ ap index (unbiased_on ((course.from.y + 32768) % 65536 + 32768) j) ∙ index_unbiased _))

-- the lowest of some rows is the first where they go up, else the last
lowest : (up : Bool) (y first second j : ℕ) → first ≤ j → j < second
    → cond up (y - j) (y + j) - 65536 ≤ cond up (y - cond up first (second - 1)) (y + cond up first (second - 1)) - 65536
lowest true y first second j a b = omega arith
lowest false y first second j a b = omega arith

-- room for the lowest row is room for all
pub rows_roomy : (t : Target) (style : CellStyle) (plan : RowPlan) (f : Edges) (n : ℕ) → style.course.from.y < 65536 → f.second ≤ 16 → f.first < f.second
    → RoomFor plan.stencil (row_start t style.course (cond style.course.heading.up f.first (f.second - 1))) n → RowsRoomy t style plan f n
rows_roomy t style plan f n h last some r = record {
  room = λ j a b.
      let u = t.area.surface in
      let k = cond style.course.heading.up f.first (f.second - 1) in
      let below : index (row_y style.course j) ≤ index (row_y style.course k)
      = rw (
        row_index style.course j h (omega arith),
        row_index style.course k h (cond_ind (λ (i : ℕ). i ≤ 32768) style.course.heading.up f.first
            (f.second - 1) (λ e. omega arith) (λ e. omega arith)),
      )
      (lowest style.course.heading.up ((style.course.from.y + 32768) % 65536 + 32768) f.first f.second j a b) in
      let times : u.words * (u.top + index (row_y style.course j)) ≤ u.words * (u.top + index (row_y style.course k))
      = mul-le-mul_left u.words (omega arith) in
      omega (arith, r);
}

-- the rows of a plan lie in the bitmap
pub row_in : (t : Target) (style : CellStyle) (plan : RowPlan) {f : Edges} {n : ℕ} → Ready t n n → RowsPlanned t style plan f → (j : ℕ) → f.first ≤ j
    → j < f.second → RowInside t style.course j
row_in t style plan r p j a b =
    let u = t.area.surface in
    let one : (u.left + u.width) * 1 ≤ (u.left + u.width) * u.bits = mul-le-mul_left (u.left + u.width) (depth_bounds r.depth).0 in
    record {
      few = omega (arith, p.last);
      inside = p.inside j a b;
      south = r.south;
      some = omega (arith, r.right, r.east);
      near = r.near;
    }

-- .. and so the numbers on the way to a row's first byte are small
pub record RowSized (t : Target) (y : ℕ) : Type 0 where
  pub north : 65536 ≤ y
  pub down : t.area.surface.top + (y - 65536) ≤ 2 ^ 32
  pub line : t.area.surface.base + 2 * (t.area.surface.words * (t.area.surface.top + (y - 65536))) ≤ 2 ^ 32

pub row_sized : (t : Target) (course : Course) (j : ℕ) → RowInside t course j → (y : ℕ) → unbiased y ≡ row_y course j → RowSized t y
row_sized t course j i y e =
    let u = t.area.surface in
    let h = between_holds t.clip.ymin t.clip.ymax y (ap (between t.clip.ymin t.clip.ymax) e ∙ i.inside) in
    let a : u.words * (u.top + (y - 65536)) ≤ u.words * (u.top + u.height) = mul-le-mul_left u.words (omega (arith, h.0, h.1, i.south)) in
    let b : 1 * (u.top + u.height) ≤ u.words * (u.top + u.height) = mul-le-mul_right (u.top + u.height) i.some in
    let c : (u.top + u.height) * u.words ≡ u.words * (u.top + u.height) = mul_comm (u.top + u.height) u.words in
    record {
      north = omega (arith, h.0);
      down = omega (arith, h.0, h.1, i.south, i.near);
      line = omega (arith, i.near);
    }

-- .. as is that byte itself
pub start_small : (t : Target) (course : Course) (j : ℕ) → RowInside t course j → row_start t course j ≤ 2 ^ 32
start_small t course j i =
    let z = row_sized t course j i (65536 + index (row_y course j)) (clip_row _ _ (row_y course j) i.inside) in
    let e : 65536 + index (row_y course j) - 65536 ≡ index (row_y course j) = omega arith in
    rw e at z.line

-- .. and the words of the stencil
pub stencil_small : (t : Target) (style : CellStyle) (plan : RowPlan) {f : Edges} {n : ℕ} → Ready t n n → RowsPlanned t style plan f
    → (plan.stencil.word ≤ 2 ^ 24) × (plan.stencil.end ≤ 192)
stencil_small t style plan r p =
    let u = t.area.surface in
    let q = p.planned in
    let x : leftmost_of plan.span plan.edges ≤ 131072 + 16
    = cond_ind (λ (k : ℕ). k - 65536 ≤ 131072 + 16) plan.span.left (plan.span.x + 1 - plan.edges.second) (plan.span.x + plan.edges.first)
    (λ e. omega (arith, q.span.east)) (λ e. omega (arith, q.span.east, q.columns.last, q.some, p.width)) in
    let w : (u.left + leftmost_of plan.span plan.edges) * u.bits ≤ (u.left + leftmost_of plan.span plan.edges) * 8
    = mul-le-mul_left (u.left + leftmost_of plan.span plan.edges) (depth_bounds r.depth).1 in
    (omega (arith, q.stencil.stencil.word, w, x, r.small), q.stencil.stencil.usable.end)

pub row_start_lem : (t : Target) (course : Course) (j y : ℕ) → unbiased y ≡ row_y course j
    → t.area.surface.base + 2 * (t.area.surface.words * (t.area.surface.top + (y - 65536))) ≡ row_start t course j
row_start_lem t course j y e =
    ap (λ (k : ℕ). t.area.surface.base + 2 * (t.area.surface.words * (t.area.surface.top + k))) (sym (index_unbiased y) ∙ ap index e)

-- ## What the rows need

pub rows_planned : {t : Target} {style : CellStyle} {plan : RowPlan} {f : Edges} {height : ℕ} → Planned t style plan.span.count plan
    → plan.span.count ≤ 16 → t.clip.xmax < t.area.surface.width
    → Between t.clip.ymin t.clip.ymax (unbiased plan.span.y) style.course.heading.up height f → height ≤ 16 → f.first < f.second
    → RowsPlanned t style plan f
rows_planned {t} {style} {plan} {f} p w east b h some = record {
  planned = p;
  width = w;
  east = east;
  inside = λ j lo hi.
      ap (λ (z : ℤ). between t.clip.ymin t.clip.ymax (z +ℤ directed style.course.heading.up j)) (sym p.span.y)
      ∙ b.exactly j (omega (arith, b.last)) ∙ within_true f.first j f.second lo hi;
  some = some;
  last = omega (arith, b.last);
}

-- the buffer that holds the bitmap, by itself
pub alone : {t : Target} (a b n : ℕ) → Ready t a b → cond t.area.onscreen a b ≡ n → Ready t n n
alone {t} a b n r e = record {
  depth = r.depth;
  right = r.right;
  small = r.small;
  long = rw (cond_same t.area.onscreen n) (rw e at r.long);
  near = r.near;
  east = r.east;
  south = r.south;
  table = r.table;
}

-- ## Rows with no visible cell

dot_dark : (t : Target) (d : Dot) → t.clip.xmax < t.area.surface.width → t.clip.ymax < t.area.surface.height
    → (between t.clip.xmin t.clip.xmax d.place.x && between t.clip.ymin t.clip.ymax d.place.y) ≡ false
    → visible t.area.surface t.clip d ≡ false
unfolding visible
dot_dark t d wide high h =
    and_false (something d.source) (lies t.area.surface t.clip d.place) (lies_clip t.area.surface t.clip wide high d.place ∙ h)

module _ (t : Target) (style : CellStyle) (wide : t.clip.xmax < t.area.surface.width) (high : t.clip.ymax < t.area.surface.height)
    (g : Grid) {s : Span} (first : FirstSpan style.course g.width s) where
  -- no column of the grid lies in the clip
  pub grid_beside : (e : Edges) → Between t.clip.xmin t.clip.xmax (unbiased s.x) s.left s.count e → e.first ≡ e.second
      → (c : Canvas) → c ≡ painted_all t (grid_dots t.pen style g) c
  grid_beside e columns none c = sym (rows_none t (λ j. row_dots t.pen style (grid_row g j)) g.height 0
      (λ j lo hi d. unseen t (cell_dot t.pen style (grid_row g j)) g.width 0 d (λ k x y. dark j k (omega arith))) c)
    where
      outside : (k : ℕ) → k < g.width → between t.clip.xmin t.clip.xmax (unbiased s.x +ℤ directed s.left k) ≡ false
      outside k l = columns.exactly k (omega (arith, first.count)) ∙ elim (dec_lt k e.first) [
        | yes h ↦ within_early e.first k e.second h
        | no h ↦ within_late e.first k e.second (omega arith)
      ]

      dark : (j k : ℕ) → k < g.width → visible t.area.surface t.clip (cell_dot t.pen style (grid_row g j) k) ≡ false
      dark j k l =
          let d = cell_dot t.pen style (grid_row g j) k in
          let x : between t.clip.xmin t.clip.xmax (cell_dot t.pen style (grid_row g j) k).place.x ≡ false
          = rw (← first.left, ← first.x) (outside k l) in
          dot_dark t d wide high
          (and_left (between t.clip.xmin t.clip.xmax d.place.x) (between t.clip.ymin t.clip.ymax d.place.y) x)

  -- a row that lies outside the clip's rows
  row_hidden : (f : Edges) {height : ℕ} → Between t.clip.ymin t.clip.ymax (unbiased s.y) style.course.heading.up height f
      → (row : CellRow) → row.number < height → (row.number < f.first) ⊎ (f.second ≤ row.number) → (c : Canvas)
      → painted_all t (row_dots t.pen style row) c ≡ c
  row_hidden f b row l o c = unseen t (cell_dot t.pen style row) row.width 0 c (λ k x y. dark k)
    where
      out : (row.number < f.first) ⊎ (f.second ≤ row.number) → (leb f.first row.number && ltb row.number f.second) ≡ false
      out (inl h) = within_early f.first row.number f.second h
      out (inr h) = within_late f.first row.number f.second h

      dark : (k : ℕ) → visible t.area.surface t.clip (cell_dot t.pen style row k) ≡ false
      dark k =
          let d = cell_dot t.pen style row k in
          let y : between t.clip.ymin t.clip.ymax (cell_dot t.pen style row k).place.y ≡ false
          = rw (← first.y) (b.exactly row.number l ∙ out o) in
          dot_dark t d wide high
          (and_false (between t.clip.xmin t.clip.xmax d.place.x) (between t.clip.ymin t.clip.ymax d.place.y) y)

  module _ (f : Edges) (b : Between t.clip.ymin t.clip.ymax (unbiased s.y) style.course.heading.up g.height f) (c : Canvas) where
    -- the rows in the clip are all that is seen of the grid
    pub rows_whole : painted_all t (rows_from t.pen style g f.first (f.second - f.first)) c ≡ painted_all t (grid_dots t.pen style g) c
    rows_whole = rows_cut t (λ j. row_dots t.pen style (grid_row g j)) g.height f b.ordered b.last (λ j l o d. row_hidden f b (grid_row g j) l o d) c

    -- none of them does
    pub grid_below : f.first ≡ f.second → c ≡ painted_all t (grid_dots t.pen style g) c
    unfolding joined
    grid_below e =
        let z : f.second - f.first ≡ 0 = omega arith in
        sym (painted_all_none t c) ∙ ap (λ (n : ℕ). painted_all t (rows_from t.pen style g f.first n) c) (sym z) ∙ rows_whole
