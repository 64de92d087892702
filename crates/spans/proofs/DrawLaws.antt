-- A span drawn: its visible pixels are columns of one row, what the strips make of these is what its dots change, and how many are visible.
use mathlib.Core.Path.{◌≡◌, refl, sym, ap, subst, ◌∙◌}
use mathlib.Core.Logic.{◌⊎◌, inl, inr}
use mathlib.Core.Bool.{Bool, true, false, cond, ◌&&◌}
use mathlib.Core.List.{List}
use Prim.Native.Nat.{ℕ, zero, suc, ◌+◌, ◌-◌, ◌*◌, ◌/◌, ◌%◌, ◌≤◌, ◌<◌}
use native.Mathlib.Omega.{arith}
use borrow.Author.Tests.{ltb-true, leb-true}
use lib.Dec.{leb, ltb}
use lib.ListN.{length}
use lib.IntN.{◌+ℤ◌}
use Rattle.model.specs.Ranges.{listed}
use Rattle.model.specs.Bitmaps.{Fits}
use Rattle.model.specs.Coordinates.{index, between}
use Rattle.model.specs.Pixels.{changes, pattern_source}
use Rattle.model.specs.Dots.{Dot, something, lies, visible, hits, changes_of}
use Rattle.model.specs.declared.Clip.{Clip}
use Rattle.model.specs.declared.Surface.{Surface}
use Rattle.model.specs.declared.Pen.{Pen}
use Rattle.model.proofs.Decisions.{split, both_true, and_false, and_true, cond_true, cond_false}
use Rattle.model.proofs.DotLaws.{lies_clip}
use Rattle.model.proofs.PlaceLaws.{depth_bounds}
use native.Mathlib.Nat.{mul-le-mul_left}
use Rattle.coordinates.specs.Offsets.{directed, unbiased}
use Rattle.coordinates.specs.declared.Edges.{Edges}
use Rattle.coordinates.proofs.EdgeLaws.{within_true, within_early, within_late, unbiased_on, unbiased_back, between_on, between_back, between_holds}
use Rattle.canvas.specs.declared.Target.{Target}
use Rattle.canvas.specs.Targets.{Ready}
use Rattle.canvas.specs.Canvas.{Canvas, canvas, painted, painted_all, Painted}
use Rattle.canvas.proofs.BufferLaws.{buffer_length, screen_painted, store_painted}
use Rattle.strips.specs.Strokes.{shown, pattern_on}
use Rattle.strips.specs.Stretches.{Stretched}
use Rattle.strips.specs.Strips.{InRow, Woven, InkOf}
use Rattle.strips.specs.declared.inks.Ink.{Ink}
use Rattle.stencils.specs.Stencils.{stencilled, StencilOf}
use Rattle.stencils.specs.declared.Stencil.{Stencil}
use Rattle.stencils.proofs.PenLaws.{stencil_dotted, word_pixels}
use Rattle.strips.specs.Tables.{brushed}
use Rattle.strips.proofs.FieldBits.{Bytes, changes_bytes}
use Rattle.strips.proofs.StretchLaws.{true_false, row_byte, stretched_same, stretched_by}
use Rattle.strips.proofs.RowLaws.{row_is, sized}
use Rattle.strips.proofs.DottedLaws.{dotted, woven_dotted}
use Rattle.strips.proofs.DotLaws.{Cut, cut_window, left_lt, left_twice}
use Rattle.strips.proofs.HitLaws.{shown_cong, shown_from, shown_le}
use Rattle.strips.proofs.SpanLaws.{right_phase, left_phase, span_stretched, pattern_hits}
use Rattle.spans.specs.declared.Span.{Span}
use Rattle.spans.specs.Through.{Short, StencilFor}
use Rattle.spans.specs.Spans.{span_place, span_dot, span_dots, EdgesOf, Met, Strung, Reached, leftmost_of, phase_of, span_changed, Pending}

-- ## A pattern's 1s

-- counted from an index on
pub seen_from : (pattern index n : ℕ) → shown (pattern_on pattern) (index % 16) n ≡ shown (pattern_on pattern) index n
seen_from pattern index n =
    shown_from (pattern_on pattern) n (index % 16)
    ∙ shown_cong (λ q. pattern_on pattern (index % 16 + q)) (λ q. pattern_on pattern (index + q)) n 0
    (λ q a b. let e : (index % 16 + q) % 16 ≡ (index + q) % 16 = omega arith in rw e refl)
    ∙ sym (shown_from (pattern_on pattern) n index)

-- ## Where a pixel lies

pub index_unbiased : (a : ℕ) → index (unbiased a) ≡ a - 65536
index_unbiased a = split (ltb a 65536)
    (λ e. let l = ltb-true a 65536 e in rw e (omega arith))
    (λ e. rw e refl)

visible_lies : (u : Surface) (clip : Clip) (pen : Pen) (s : Span) (i : ℕ)
    → visible u clip (span_dot pen s i) ≡ (something (span_dot pen s i).source && lies u clip (span_place s i))
unfolding visible span_dot
visible_lies u clip pen s i = refl

-- a column counted from the right
from_right : (x i j k : ℕ) → k < j - i → j + 65535 ≤ x → x - (i + k) - 65536 ≡ x + 1 - j - 65536 + (j - i - 1 - k)
from_right x i j k h l =
    let a : x ≡ x - 65535 - j + 65535 + j = omega arith in
    let b : j ≡ i + k + 1 + (j - i - 1 - k) = omega arith in
    plain (x - 65535 - j) i k (j - i - 1 - k) x j a b
  where
    plain : (m i k r x j : ℕ) → x ≡ m + 65535 + j → j ≡ i + k + 1 + r → x - (i + k) - 65536 ≡ x + 1 - j - 65536 + r
    plain m i k r x j a b = omega arith

-- a column in the clip
right_by : (clip : Clip) (s : Span) → s.left ≡ false → (i : ℕ) → between clip.xmin clip.xmax (unbiased s.x +ℤ directed s.left i) ≡ true
    → (clip.xmin + 65536 ≤ s.x + i) × (s.x + i ≤ clip.xmax + 65536)
right_by clip s r i h =
    let b = both_true (leb (clip.xmin + 65536 - s.x) i) (ltb i (clip.xmax + 65536 + 1 - s.x))
    (sym (between_on clip.xmin clip.xmax s.x i) ∙ (rw r at h)) in
    let p = leb-true _ i b.0 in
    let q = ltb-true i _ b.1 in
    (omega arith, omega arith)

left_by : (clip : Clip) (s : Span) → s.left ≡ true → (i : ℕ) → between clip.xmin clip.xmax (unbiased s.x +ℤ directed s.left i) ≡ true
    → (i + clip.xmin + 65536 ≤ s.x) × (s.x ≤ i + clip.xmax + 65536)
left_by clip s r i h =
    let b = both_true (leb (s.x - (clip.xmax + 65536)) i) (ltb i (s.x + 1 - (clip.xmin + 65536)))
    (sym (between_back clip.xmin clip.xmax s.x i) ∙ (rw r at h)) in
    let p = leb-true _ i b.0 in
    let q = ltb-true i _ b.1 in
    (omega arith, omega arith)

-- the columns between the edges lie in the bitmap
pub record Columns (u : Surface) (s : Span) (e : Edges) : Type 0 where
  pub columns : leftmost_of s e + (e.second - e.first) ≤ u.width
  pub reached : Reached s e

pub columns_in : (u : Surface) (clip : Clip) (s : Span) (e : Edges) → clip.xmax < u.width → e.first < e.second
    → ((i : ℕ) → e.first ≤ i → i < e.second → between clip.xmin clip.xmax (unbiased s.x +ℤ directed s.left i) ≡ true) → Columns u s e
columns_in u clip s e wide some seen = split s.left
    (λ r.
    let a = left_by clip s r e.first (seen e.first (omega arith) some) in
    let b = left_by clip s r (e.second - 1) (seen (e.second - 1) (omega arith) (omega arith)) in
    record {
      columns = rw r (omega arith);
      reached = record { right = λ q. absurd (true_false (sym r ∙ q)); left = λ q. omega arith };
    })
    (λ r.
    let a = right_by clip s r e.first (seen e.first (omega arith) some) in
    let b = right_by clip s r (e.second - 1) (seen (e.second - 1) (omega arith) (omega arith)) in
    record {
      columns = rw r (omega arith);
      reached = record { right = λ q. omega arith; left = λ q. absurd (true_false (sym q ∙ r)) };
    })

module _ (u : Surface) (clip : Clip) (s : Span) (e : Edges) (wide : clip.xmax < u.width) (high : clip.ymax < u.height)
    (edges : EdgesOf u clip s e) where
  inside : (i : ℕ) → e.first ≤ i → i < e.second → lies u clip (span_place s i) ≡ true
  inside i a b = edges.exactly i (omega (arith, edges.last)) ∙ within_true e.first i e.second a b

  outside : (i : ℕ) → i < s.count → (i < e.first) ⊎ (e.second ≤ i) → lies u clip (span_place s i) ≡ false
  outside i l (inl h) = edges.exactly i l ∙ within_early e.first i e.second h
  outside i l (inr h) = edges.exactly i l ∙ within_late e.first i e.second h

  -- a pixel in bitmap and clip: its column and its row lie in the clip
  both : (i : ℕ) → lies u clip (span_place s i) ≡ true
      → (between clip.xmin clip.xmax (unbiased s.x +ℤ directed s.left i) ≡ true) × (between clip.ymin clip.ymax (unbiased s.y) ≡ true)
  both i h = both_true _ _ (sym (lies_clip u clip wide high (span_place s i)) ∙ h)

  row_in : (i : ℕ) → lies u clip (span_place s i) ≡ true → (clip.ymin + 65536 ≤ s.y) × (s.y ≤ clip.ymax + 65536)
  row_in i h = between_holds clip.ymin clip.ymax s.y (both i h).1

  right_in : s.left ≡ false → (i : ℕ) → lies u clip (span_place s i) ≡ true → (clip.xmin + 65536 ≤ s.x + i) × (s.x + i ≤ clip.xmax + 65536)
  right_in r i h = right_by clip s r i (both i h).0

  left_in : s.left ≡ true → (i : ℕ) → lies u clip (span_place s i) ≡ true → (i + clip.xmin + 65536 ≤ s.x) × (s.x ≤ i + clip.xmax + 65536)
  left_in r i h = left_by clip s r i (both i h).0

  module _ (some : e.first < e.second) where
    -- the visible columns lie in the bitmap
    pub record Part : Type 0 where
      pub columns : leftmost_of s e + (e.second - e.first) ≤ u.width
      pub row : s.y - 65536 < u.height
      pub north : 65536 ≤ s.y
      pub reached : Reached s e

    pub part : Part
    part = record { columns = c.columns; row = omega (arith, rows); north = omega (arith, rows); reached = c.reached }
      where
        rows : (clip.ymin + 65536 ≤ s.y) × (s.y ≤ clip.ymax + 65536)
        rows = row_in e.first (inside e.first (omega arith) some)

        c : Columns u s e
        c = columns_in u clip s e wide some (λ i a b. (both i (inside i a b)).0)

    module _ (pen : Pen) where
      -- a visible pixel is drawn where its pattern has a source
      sights : (k : ℕ) → k < e.second - e.first → visible u clip (span_dot pen s (e.first + k)) ≡ something (span_dot pen s (e.first + k)).source
      sights k l = visible_lies u clip pen s (e.first + k) ∙ and_true _ _ (inside (e.first + k) (omega arith) (omega arith))

      hidden : (k : ℕ) → k < s.count → (k < e.first) ⊎ (e.first + (e.second - e.first) ≤ k) → visible u clip (span_dot pen s k) ≡ false
      hidden k l (inl h) = visible_lies u clip pen s k ∙ and_false (something (span_dot pen s k).source) _ (outside k l (inl h))
      hidden k l (inr h) = visible_lies u clip pen s k ∙ and_false (something (span_dot pen s k).source) _ (outside k l (inr (omega arith)))

      rows : (k : ℕ) → index (span_dot pen s k).place.y ≡ s.y - 65536
      unfolding span_dot
      rows k = index_unbiased s.y

      right_columns : s.left ≡ false → (k : ℕ) → k < e.second - e.first → index (span_dot pen s (e.first + k)).place.x ≡ leftmost_of s e + k
      unfolding span_dot
      right_columns r k l =
          let a = right_in r e.first (inside e.first (omega arith) some) in
          rw r (ap index (unbiased_on s.x (e.first + k)) ∙ index_unbiased (s.x + (e.first + k)) ∙ omega arith)

      left_columns : s.left ≡ true → (k : ℕ) → k < e.second - e.first
          → index (span_dot pen s (e.first + k)).place.x ≡ leftmost_of s e + (e.second - e.first - 1 - k)
      unfolding span_dot
      left_columns r k l =
          let b = left_in r (e.second - 1) (inside (e.second - 1) (omega arith) (omega arith)) in
          rw r (ap index (unbiased_back s.x (e.first + k) (omega arith)) ∙ index_unbiased (s.x - (e.first + k))
          ∙ from_right s.x e.first e.second k l (omega arith))

      right_cut : s.left ≡ false → Cut u clip (span_dot pen s) (λ k. k) (leftmost_of s e) (s.y - 65536) e.first (e.second - e.first) s.count
      right_cut r = record {
        most = omega (arith, edges.last);
        column = right_columns r;
        row = λ k l. rows (e.first + k);
        hidden = hidden;
        order_lt = λ k l. l;
        twice = λ k l. refl;
      }

      left_cut : s.left ≡ true
          → Cut u clip (span_dot pen s) (λ k. e.second - e.first - 1 - k) (leftmost_of s e) (s.y - 65536) e.first (e.second - e.first) s.count
      left_cut r = record {
        most = omega (arith, edges.last);
        column = left_columns r;
        row = λ k l. rows (e.first + k);
        hidden = hidden;
        order_lt = left_lt (e.second - e.first);
        twice = left_twice (e.second - e.first);
      }

      sources : (k : ℕ) → (span_dot pen s k).source ≡ pattern_source pen (s.index + k)
      unfolding span_dot
      sources k = refl

      -- how many are visible
      pub drawn_hits : hits u clip (span_dots pen s)
          ≡ cond pen.transparent (shown (pattern_on pen.pattern) (s.index + e.first) (e.second - e.first)) (e.second - e.first)
      unfolding span_dots
      drawn_hits = split s.left
          (λ r. pattern_hits pen s.index (cut_window (left_cut r)) (λ k l. sources k) sights)
          (λ r. pattern_hits pen s.index (cut_window (right_cut r)) (λ k l. sources k) sights)

      -- what the strips make of the row is what the dots change
      module _ (pattern : ℕ) (met : Met s.left pen.pattern pattern) where
        right_laid : s.left ≡ false → (phase q : ℕ) → phase ≡ phase_of s e (u.left + leftmost_of s e)
            → pattern_on pattern (phase + (u.left + leftmost_of s e + q)) ≡ pattern_on pen.pattern (s.index + (e.first + q))
        right_laid r phase q f =
            let z : s.index + (e.first + q) ≡ s.index + e.first + q = omega arith in
            rw (z, rw r at met) (right_phase pen.pattern (u.left + leftmost_of s e) (s.index + e.first) phase q (f ∙ cond_false _ _ r))

        left_laid : s.left ≡ true → (phase q : ℕ) → phase ≡ phase_of s e (u.left + leftmost_of s e) → q < e.second - e.first
            → pattern_on pattern (phase + (u.left + leftmost_of s e + q)) ≡ pattern_on pen.pattern (s.index + (e.first + (e.second - e.first - 1 - q)))
        left_laid r phase q f l =
            let y : s.index + e.first + (e.second - e.first) - 1 ≡ s.index + e.second - 1 = omega arith in
            let z : s.index + (e.first + (e.second - e.first - 1 - q)) ≡ s.index + e.first + (e.second - e.first - 1 - q) = omega arith in
            rw z (left_phase pen.pattern pattern (u.left + leftmost_of s e) (s.index + e.first) (e.second - e.first) phase q (rw r at met)
            (f ∙ cond_true _ _ r ∙ ap (λ (z : ℕ). (31 - z % 16 - (u.left + leftmost_of s e) % 16) % 16) (sym y)) l)

        -- the pattern over the columns, as the dots draw it
        dots_dotted : {old : List ℕ} → Fits u old → (phase : ℕ) → phase ≡ phase_of s e (u.left + leftmost_of s e)
            → Stretched (dotted pen (λ q. pattern_on pattern (phase + q)) u.bits (row_byte u (s.y - 65536))) (row_byte u (s.y - 65536))
            ((u.left + leftmost_of s e) * u.bits) ((u.left + leftmost_of s e) * u.bits + (e.second - e.first) * u.bits) old
            (changes u (changes_of u clip pen (span_dots pen s)) old)
        unfolding span_dots
        dots_dotted {old = old} fits phase f = split s.left
            (λ r. span_stretched u clip pen (span_dot pen s) (λ k. e.second - e.first - 1 - k) (λ k. s.index + k) (leftmost_of s e) (s.y - 65536)
            e.first (e.second - e.first) s.count (λ q. pattern_on pattern (phase + q)) old (left_cut r) fits part.columns part.row
            (λ k l. sources k) sights (λ q l. left_laid r phase q f l))
            (λ r. span_stretched u clip pen (span_dot pen s) (λ k. k) (λ k. s.index + k) (leftmost_of s e) (s.y - 65536)
            e.first (e.second - e.first) s.count (λ q. pattern_on pattern (phase + q)) old (right_cut r) fits part.columns part.row
            (λ k l. sources k) sights (λ q l. right_laid r phase q f))

        pub drawn_changes : {strips old new : List ℕ} → Woven pen pattern u.bits strips → Fits u old → Bytes old → Bytes new
            → (phase : ℕ) → phase ≡ phase_of s e (u.left + leftmost_of s e)
            → Stretched (brushed strips phase (row_byte u (s.y - 65536))) (row_byte u (s.y - 65536)) ((u.left + leftmost_of s e) * u.bits)
            ((u.left + leftmost_of s e) * u.bits + (e.second - e.first) * u.bits) old new
            → new ≡ changes u (changes_of u clip pen (span_dots pen s)) old
        drawn_changes {old = old} w fits bo bn phase f p = stretched_same
            (stretched_by (λ m i v. woven_dotted w fits.depth phase (row_byte u (s.y - 65536)) m v i.row) p)
            (dots_dotted fits phase f) bn (changes_bytes u _ old bo)

        -- .. and what a stencil makes of the row
        pub through_changes : {old new : List ℕ} {fore back : Ink} {turn : ℕ} {stencil : Stencil}
            → StencilOf fore back u.bits turn ((u.left + leftmost_of s e) * u.bits)
            ((u.left + leftmost_of s e) * u.bits + (e.second - e.first) * u.bits) stencil
            → InkOf pen true fore → InkOf pen false back
            → turn ≡ (phase_of s e (u.left + leftmost_of s e) + (u.left + leftmost_of s e) * u.bits / 16 * (16 / u.bits)) % 16
            → Fits u old → Bytes old → Bytes new
            → Stretched (stencilled stencil pattern (row_byte u (s.y - 65536))) (row_byte u (s.y - 65536))
            (16 * stencil.word + stencil.lead) (16 * stencil.word + stencil.end) old new
            → new ≡ changes u (changes_of u clip pen (span_dots pen s)) old
        through_changes {old = old} so ones zeros f fits bo bn p = stretched_same
            (stretched_by (λ m i v. stencil_dotted so ones zeros fits.depth pattern _ (row_byte u (s.y - 65536)) m v f i) (rw (so.from, so.to) at p))
            (dots_dotted fits _ refl) bn (changes_bytes u _ old bo)

-- ## On both buffers

-- dots of which none is visible
pub unseen : (t : Target) (f : ℕ → Dot) (n i : ℕ) (c : Canvas) → ((k : ℕ) → i ≤ k → k < i + n → visible t.area.surface t.clip (f k) ≡ false)
    → painted_all t (listed i n f) c ≡ c
unfolding painted_all listed painted
unseen t f zero i c h = refl
unseen t f (suc n) i c h =
    ap (painted_all t (listed (suc i) n f)) (cond_false _ _ (h i (omega arith) (omega arith)))
    ∙ unseen t f n (suc i) c (λ k a b. h k (omega arith) (omega arith))

-- equal edges: nothing is drawn
pub drawn_none : (t : Target) (s : Span) (e : Edges) (c : Canvas) → EdgesOf t.area.surface t.clip s e → e.first ≡ e.second
    → c ≡ painted_all t (span_dots t.pen s) c
unfolding span_dots
drawn_none t s e c edges q = sym (unseen t (span_dot t.pen s) s.count 0 c
    (λ k a b. visible_lies t.area.surface t.clip t.pen s k
    ∙ and_false (something (span_dot t.pen s k).source) _ (edges.none q k (omega arith))))

-- ## The numbers on the way

cond_most : (here : Bool) (a b : ℕ) → cond here a b ≤ a + b
cond_most true a b = omega arith
cond_most false a b = omega arith

-- the buffer that holds the bitmap
abbrev pub buffer_of : Target → List ℕ → List ℕ → List ℕ
buffer_of t screen store = cond t.area.onscreen screen store

pub ready_fits : {t : Target} (screen store : List ℕ) → Ready t (length screen) (length store) → Fits t.area.surface (buffer_of t screen store)
ready_fits {t} screen store r = record {
  depth = r.depth;
  right = r.right;
  long = rw (buffer_length t.area.onscreen screen store) r.long;
}

-- the visible part of a span, from column x on: what the machine's numbers, its row and the buffer leave room for
pub record PartSized (t : Target) (s : Span) (e : Edges) (screen store x : ℕ) : Type 0 where
  pub west : t.area.surface.left + x ≤ 65536
  pub north : 65536 ≤ s.y
  pub down : t.area.surface.top + (s.y - 65536) ≤ screen + store
  pub line : t.area.surface.base + 2 * (t.area.surface.words * (t.area.surface.top + (s.y - 65536))) ≤ screen + store
  pub hi : (t.area.surface.left + x) * t.area.surface.bits + (e.second - e.first) * t.area.surface.bits ≤ 524288
  pub some : 0 < (e.second - e.first) * t.area.surface.bits
  pub room : t.area.surface.base + 2 * (t.area.surface.words * (t.area.surface.top + (s.y - 65536)))
      + 2 * (((t.area.surface.left + x) * t.area.surface.bits + (e.second - e.first) * t.area.surface.bits + 15) / 16)
      ≤ cond t.area.onscreen screen store

module _ (t : Target) (s : Span) (e : Edges) (screen store : List ℕ) (r : Ready t (length screen) (length store))
    (edges : EdgesOf t.area.surface t.clip s e) (some : e.first < e.second) where
  in_row : InRow t.area.surface (buffer_of t screen store) (leftmost_of s e) (s.y - 65536) (e.second - e.first)
  in_row =
      let p = part t.area.surface t.clip s e r.east r.south edges some in
      record { fits = ready_fits screen store r; small = r.small; columns = p.columns; row = p.row }

  pub part_sized : (x : ℕ) → x ≡ leftmost_of s e → PartSized t s e (length screen) (length store) x
  part_sized x q =
      let u = t.area.surface in
      let p = part t.area.surface t.clip s e r.east r.south edges some in
      let z = sized t.area.surface (buffer_of t screen store) (leftmost_of s e) (s.y - 65536) (e.second - e.first) in_row (omega arith) in
      let l = buffer_length t.area.onscreen screen store in
      let m = cond_most t.area.onscreen (length screen) (length store) in
      rw q (record {
        west = omega (arith, p.columns, r.small);
        north = p.north;
        down = omega (arith, z.down, l, m);
        line = omega (arith, z.room, l, m);
        hi = z.short;
        some = z.some;
        room = omega (arith, z.room, z.fit, l);
      })

  -- what was drawn, its numbers as the code has them
  pub part_changes : {strips old new : List ℕ} → Strung t s.left strips → Fits t.area.surface old → Bytes old → Bytes new
      → (x phase : ℕ) → x ≡ leftmost_of s e → phase ≡ phase_of s e (t.area.surface.left + x)
      → Stretched (brushed strips phase (t.area.surface.base + 2 * (t.area.surface.words * (t.area.surface.top + (s.y - 65536)))))
      (t.area.surface.base + 2 * (t.area.surface.words * (t.area.surface.top + (s.y - 65536))))
      ((t.area.surface.left + x) * t.area.surface.bits)
      ((t.area.surface.left + x) * t.area.surface.bits + (e.second - e.first) * t.area.surface.bits) old new
      → new ≡ span_changed t s old
  unfolding span_changed
  part_changes w fits bo bn x phase q f p =
      drawn_changes t.area.surface t.clip s e r.east r.south edges some t.pen w.pattern w.met w.woven fits bo bn phase (rw q at f)
      (rw (row_is t.area.surface (buffer_of t screen store) (leftmost_of s e) (s.y - 65536) (e.second - e.first) in_row) at (rw q at p))

  -- .. through a stencil
  pub part_through : {old new : List ℕ} {r' : Stencil} (met : ℕ) → StencilFor t s e r' → Met s.left t.pen.pattern met
      → Fits t.area.surface old → Bytes old → Bytes new
      → Stretched (stencilled r' met (t.area.surface.base + 2 * (t.area.surface.words * (t.area.surface.top + (s.y - 65536)))))
      (t.area.surface.base + 2 * (t.area.surface.words * (t.area.surface.top + (s.y - 65536))))
      (16 * r'.word + r'.lead) (16 * r'.word + r'.end) old new
      → new ≡ span_changed t s old
  unfolding span_changed
  part_through met f m fits bo bn p =
      through_changes t.area.surface t.clip s e r.east r.south edges some t.pen met m f.stencil f.ones f.zeros f.index fits bo bn
      (rw (row_is t.area.surface (buffer_of t screen store) (leftmost_of s e) (s.y - 65536) (e.second - e.first) in_row) at p)

pub screen_fits : {t : Target} (screen store : List ℕ) → Ready t (length screen) (length store) → t.area.onscreen ≡ true → Fits t.area.surface screen
screen_fits {t} screen store r o = subst (λ (l : List ℕ). Fits t.area.surface l) (cond_true screen store o) (ready_fits screen store r)

pub store_fits : {t : Target} (screen store : List ℕ) → Ready t (length screen) (length store) → t.area.onscreen ≡ false → Fits t.area.surface store
store_fits {t} screen store r o = subst (λ (l : List ℕ). Fits t.area.surface l) (cond_false screen store o) (ready_fits screen store r)

-- both buffers after dots are drawn
pub dots_painted : (t : Target) (ds : List Dot) (screen store : List ℕ) (before count : ℕ) → hits t.area.surface t.clip ds ≡ count
    → t.picking ≡ false → {screen' store' : List ℕ}
    → screen' ≡ cond t.area.onscreen (changes t.area.surface (changes_of t.area.surface t.clip t.pen ds) screen) screen
    → store' ≡ cond t.area.onscreen store (changes t.area.surface (changes_of t.area.surface t.clip t.pen ds) store)
    → canvas screen' store' (before + count) ≡ painted_all t ds (canvas screen store before)
dots_painted t ds screen store before count h p {screen'} {store'} a b = split t.area.onscreen
    (λ o. ap (λ (l : List ℕ). canvas screen' l (before + count)) (b ∙ cond_true _ _ o)
    ∙ screen_painted t ds screen store before count h p o (a ∙ cond_true _ _ o))
    (λ o. ap (λ (l : List ℕ). canvas l store' (before + count)) (a ∙ cond_false _ _ o)
    ∙ store_painted t ds screen store before count h p o (b ∙ cond_false _ _ o))

-- .. and after those that were still to be drawn are
pub pending_painted : {P : Edges → Type 0} {t : Target} {ds : List Dot} {before seen : ℕ} {e : Edges} → Pending P t ds before seen e
    → (screen store : List ℕ) {screen' store' : List ℕ}
    → screen' ≡ cond t.area.onscreen (changes t.area.surface (changes_of t.area.surface t.clip t.pen ds) screen) screen
    → store' ≡ cond t.area.onscreen store (changes t.area.surface (changes_of t.area.surface t.clip t.pen ds) store)
    → Painted t ds (canvas screen store before) (canvas screen' store' seen)
pending_painted {t = t} {ds = ds} {before = before} p screen store a b = rw p.count (dots_painted t ds screen store before _ refl p.drawing a b)

-- at most all of a span's pixels are visible
pub seen_most : (t : Bool) (on : ℕ → Bool) (i n : ℕ) → cond t (shown on i n) n ≤ n
seen_most true on i n = shown_le on n i
seen_most false on i n = omega arith

-- ## A short span's stencil

-- the numbers of a stencil fit, the visible part being from column x on
pub record ShortSized (t : Target) (e : Edges) (x : ℕ) : Type 0 where
  pub west : t.area.surface.left + x ≤ 65536
  pub lo : (t.area.surface.left + x) * t.area.surface.bits ≤ 524288
  pub most : (e.second - e.first) * t.area.surface.bits ≤ 128
  pub some : 0 < (e.second - e.first) * t.area.surface.bits
  pub pixels : (t.area.surface.left + x) * t.area.surface.bits / 16 * (16 / t.area.surface.bits) ≤ 524288

pub short_columns : {t : Target} {s : Span} {e : Edges} → Short t s e → Columns t.area.surface s e
short_columns {t} {s} {e} h = columns_in t.area.surface t.clip s e h.east h.some
    (λ i a b. h.columns.exactly i (omega (arith, h.columns.last)) ∙ within_true e.first i e.second a b)

pub short_sized : {t : Target} {s : Span} {e : Edges} → Short t s e → (x : ℕ) → x ≡ leftmost_of s e → ShortSized t e x
short_sized {t} {s} {e} h x q =
    let u = t.area.surface in
    let p = short_columns h in
    let d = depth_bounds h.depth in
    let a : (t.area.surface.left + x) * t.area.surface.bits ≤ (t.area.surface.left + x) * 8 = mul-le-mul_left (t.area.surface.left + x) d.1 in
    let w : t.area.surface.left + x ≤ 65536 = omega (arith, p.columns, h.small, q) in
    let v : 16 / t.area.surface.bits ≤ 16 = omega (arith, word_pixels h.depth, mul-le-mul_left (16 / t.area.surface.bits) d.0) in
    record {
      west = w;
      lo = omega arith;
      most = omega (arith, h.few, mul-le-mul_left (e.second - e.first) d.1);
      some = omega (arith, h.some, mul-le-mul_left (e.second - e.first) d.0);
      pixels = omega (arith, mul-le-mul_left ((t.area.surface.left + x) * t.area.surface.bits / 16) v);
    }
