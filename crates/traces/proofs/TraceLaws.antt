-- The visible pixels of a trace stamped one after another: what they change is what the trace's dots change.
use Rattle.std.proofs.Common.{◌≡◌, ℕ, zero, suc, ◌+◌, ◌-◌, ◌*◌, ◌/◌, ◌%◌, ◌<◌, ◌≤◌, Bool, true, false, cond, ◌&&◌, ltb, leb, ◌⊎◌, List, length, ℤ, pos, negsuc}
use Rattle.std.proofs.Common.{sym, refl, ap, ◌∙◌, inl, inr, add-one, arith, leb-true}
use native.Mathlib.Decide.{dec_lt}
use Rattle.model.specs.Ranges.{listed}
use Rattle.model.specs.Words.{bit, digit}
use Rattle.model.specs.Coordinates.{between, index}
use Rattle.model.specs.Pixels.{change, changes, pattern_source}
use Rattle.model.specs.Dots.{Dot, dot, something, visible, hits, change_of, changes_of}
use Rattle.model.specs.declared.Surface.{Surface}
use Rattle.model.proofs.CallLaws.{changes_length}
use Rattle.model.proofs.Decisions.{both_true, and_true, and_false}
use Rattle.model.proofs.DotLaws.{lies_clip}
use Rattle.model.proofs.PixelLaws.{fits_framed}
use Rattle.raster.specs.Place.{Drawable}
use Rattle.raster.proofs.PlaceLaws.{xor_one}
use Rattle.coordinates.specs.declared.Edges.{Edges}
use Rattle.coordinates.proofs.EdgeLaws.{within_true, within_early, within_late}
use Rattle.canvas.specs.declared.Target.{Target}
use Rattle.canvas.specs.Canvas.{Canvas, painted_all}
use Rattle.spans.proofs.DrawLaws.{unseen}
use Rattle.strips.specs.Strokes.{shown, pattern_on}
use Rattle.strips.proofs.SpanLaws.{pattern_hits}
use Rattle.strips.proofs.FieldBits.{Bytes, changes_bytes}
use Rattle.strips.proofs.WindowLaws.{Window, drawn_dots, drawn_next, window_drawn}
use Rattle.stamps.specs.Stamps.{StampsOf, stamp_byte, stamped}
use Rattle.stamps.proofs.StampLaws.{stamped_change, stamp_in}
use Rattle.traces.specs.declared.Trace.{Trace}
use Rattle.traces.specs.Traces.{trace_place, trace_dot, trace_dots, trace_length}
use Rattle.traces.specs.Edges.{TraceEdges}
use Rattle.traces.specs.Walks.{column_on, row_on, Located, Locatable, spot_at, steps_of, spot_no, Walkable, walked, Tracing, traced}
use Rattle.traces.proofs.SlopeLaws.{rest_below}
use Rattle.traces.proofs.WalkLaws.{spot_no_lem}

-- ## Which dots are visible

module _ (t : Target) (s : Trace) (e : Edges) (east : t.clip.xmax < t.area.surface.width)
    (south : t.clip.ymax < t.area.surface.height) (edges : TraceEdges t.clip s e) where
  dot_seen : (k : ℕ) → k < trace_length s
      → visible t.area.surface t.clip (trace_dot t.pen s k)
      ≡ (something (pattern_source t.pen (k + s.index)) && (leb e.first (k + s.first) && ltb (k + s.first) e.second))
  unfolding visible trace_dot
  dot_seen k l = ap (λ (v : Bool). something (pattern_source t.pen (k + s.index)) && v)
      (lies_clip t.area.surface t.clip east south (trace_place s (k + s.first)) ∙ edges.exactly (k + s.first) (omega arith) (omega arith))

  -- no pixel lies in the clip
  pub trace_none : e.first ≡ e.second → (c : Canvas) → c ≡ painted_all t (trace_dots t.pen s) c
  unfolding trace_dots
  trace_none q c = sym (unseen t (trace_dot t.pen s) (trace_length s) 0 c (λ k l h.
      dot_seen k (omega arith) ∙ and_false (something (pattern_source t.pen (k + s.index))) _ (empty (k + s.first) (dec_lt (k + s.first) e.first))))
    where
      empty : (i : ℕ) → Dec (i < e.first) → (leb e.first i && ltb i e.second) ≡ false
      empty i (yes h) = within_early e.first i e.second h
      empty i (no h) = within_late e.first i e.second (omega arith)

  module _ (some : e.first < e.second) where
    inside_seen : (k : ℕ) → e.first ≤ k + s.first → k + s.first < e.second
        → visible t.area.surface t.clip (trace_dot t.pen s k) ≡ something (pattern_source t.pen (k + s.index))
    inside_seen k a b =
        dot_seen k (omega (arith, edges.last))
        ∙ and_true (something (pattern_source t.pen (k + s.index))) _ (within_true e.first (k + s.first) e.second a b)

    trace_window : Window t.area.surface t.clip (trace_dot t.pen s) (e.first - s.first) (e.second - e.first) (trace_length s)
    trace_window = record {
      most = omega (arith, edges.early some, edges.last);
      hidden = λ k l o. dot_seen k l ∙ and_false (something (pattern_source t.pen (k + s.index))) _ (out k o);
    }
      where
        out : (k : ℕ) → (k < e.first - s.first) ⊎ (e.first - s.first + (e.second - e.first) ≤ k)
            → (leb e.first (k + s.first) && ltb (k + s.first) e.second) ≡ false
        out k (inl h) = within_early e.first (k + s.first) e.second (omega arith)
        out k (inr h) = within_late e.first (k + s.first) e.second (omega (arith, edges.early some))

    source : (k : ℕ) → (trace_dot t.pen s k).source ≡ pattern_source t.pen (k + s.index)
    unfolding trace_dot
    source k = refl

    -- how many are visible
    pub trace_hits : hits t.area.surface t.clip (trace_dots t.pen s)
        ≡ cond t.pen.transparent (shown (pattern_on t.pen.pattern) (s.index + (e.first - s.first)) (e.second - e.first)) (e.second - e.first)
    unfolding trace_dots
    trace_hits = pattern_hits t.pen s.index trace_window
        (λ p l. let z : p + s.index ≡ s.index + p = omega arith in source p ∙ ap (pattern_source t.pen) z)
        (λ p l. inside_seen (e.first - s.first + p) (omega (arith, edges.early some)) (omega (arith, edges.early some))
        ∙ ap something (sym (source (e.first - s.first + p))))

-- ## A pixel's byte, from its row's begin and from the surface's

byte_from : (base w o : ℕ) → stamp_byte base (16 * w + o) ≡ stamp_byte (base + 2 * w) o
byte_from base w o =
    let x = xor_one ((16 * w + o) / 8) in
    let y = xor_one (o / 8) in
    omega arith

stamped_from : (stamps : List ℕ) (base w o on : ℕ) (buffer : List ℕ) → stamped stamps base (16 * w + o) on buffer ≡ stamped stamps (base + 2 * w) o on buffer
unfolding stamped
stamped_from stamps base w o on buffer =
    let m : (16 * w + o) % 16 ≡ o % 16 = omega arith in
    rw (byte_from base w o, m) refl

-- ## Where a visible pixel lies

between_index : (lo hi : ℕ) (z : ℤ) → between lo hi z ≡ true → (z ≡ pos (index z)) × (index z ≤ hi)
between_index lo hi (pos n) h = (refl, leb-true n hi (both_true (leb lo n) (leb n hi) h).1)
between_index lo hi (negsuc n) h = absurd (let e : ◌≡◌ {A = ℕ} 0 1 = ap digit h in (let f : ⊥ = omega arith in f))

module _ {t : Target} {s : Trace} {e : Edges} {old : List ℕ} (c : Tracing t s e old) where
  abbrev u : Surface
  u = t.area.surface

  pub early : s.first ≤ e.first
  early = c.edges.early c.some

  located : (i : ℕ) → e.first ≤ i → i < e.second → Located u s i
  located i a b =
      let v = both_true _ _ (c.edges.exactly i (omega (arith, early)) (omega (arith, c.edges.last)) ∙ within_true e.first i e.second a b) in
      let p = between_index t.clip.xmin t.clip.xmax (trace_place s i).x v.0 in
      let q = between_index t.clip.ymin t.clip.ymax (trace_place s i).y v.1 in
      record {
        number = omega (arith, c.edges.last);
        x = p.0;
        y = q.0;
        column = omega (arith, p.1, c.east);
        row = omega (arith, q.1, c.south);
      }

  pub locatable : (i : ℕ) → e.first ≤ i → i < e.second → Locatable u s i
  locatable i a b = record { small = c.numbers; located = located i a b; depth = c.fits.depth; right = c.fits.right; near = c.near }

  abbrev n : ℕ
  n = e.second - e.first

  -- spot k from the first visible pixel on
  spot_is : (k : ℕ) → k < n → spot_no (spot_at u s e.first) (steps_of u s) k ≡ spot_at u s (e.first + k)
  spot_is k h = spot_no_lem u s e.first n (λ j l. locatable (e.first + j) (omega arith) (omega arith)) k h

  module _ {stamps : List ℕ} (table : StampsOf t.pen u.bits stamps) (small : Bytes stamps) (bytes : Bytes old) where
    -- the buffer after the dots of so many visible pixels
    abbrev after : ℕ → List ℕ
    after k = drawn_dots u t.clip t.pen (trace_dot t.pen s) (e.first - s.first) k old

    module _ (k : ℕ) (h : k < n) where
      abbrev i : ℕ
      i = e.first + k

      there : Located u s i
      there = located i (omega arith) (omega arith)

      drawable : (m : ℕ) → Drawable u (after m) (column_on s i) (row_on s i)
      drawable m = record {
        fits = fits_framed u old (after m) (changes_length u _ old) c.fits;
        small = c.small;
        column = there.column;
        row = there.row;
      }

      -- its byte lies in the buffer
      spot_in : stamp_byte u.base (spot_at u s i).bit < length old
      spot_in =
          rw (byte_from u.base (u.words * (u.top + row_on s i)) ((u.left + column_on s i) * u.bits))
          (omega (
            arith,
            changes_length u (changes_of u t.clip t.pen (listed (e.first - s.first) 0 (trace_dot t.pen s))) old,
            stamp_in u t.pen stamps (after 0) (column_on s i) (row_on s i) (drawable 0) table small (changes_bytes u _ old bytes) true _ _ refl refl,
          ))

      -- its dot
      abbrev j : ℕ
      j = e.first - s.first + k

      dot_is : trace_dot t.pen s j ≡ dot (trace_place s i) (pattern_source t.pen (j + s.index))
      unfolding trace_dot
      dot_is = let z : j + s.first ≡ i = omega (arith, early) in ap (λ (m : ℕ). dot (trace_place s m) (pattern_source t.pen (j + s.index))) z

      seen : something (pattern_source t.pen (j + s.index)) ≡ visible u t.clip (trace_dot t.pen s j)
      seen = sym (inside_seen t s e c.east c.south c.edges c.some j (omega (arith, early)) (omega (arith, early)))

      -- the pixel stamped is its dot drawn
      stamped_dot : {on : ℕ} → on ≡ digit (bit t.pen.pattern (15 - (j + s.index) % 16))
          → stamped stamps u.base (spot_at u s i).bit on (after k) ≡ after (k + 1)
      stamped_dot {on} o =
          stamped_from stamps u.base (u.words * (u.top + row_on s i)) ((u.left + column_on s i) * u.bits) on (after k)
          ∙ stamped_change u t.pen stamps (after k) (column_on s i) (row_on s i) (drawable k) table small (changes_bytes u _ old bytes)
          (bit t.pen.pattern (15 - (j + s.index) % 16)) _ _ on refl refl o
          ∙ ap (λ (v : Bool). cond v (change u (change_of u t.pen (dot (trace_place s i) (pattern_source t.pen (j + s.index)))) (after k)) (after k)) seen
          ∙ ap (λ (d : Dot). cond (visible u t.clip (trace_dot t.pen s j)) (change u (change_of u t.pen d) (after k)) (after k)) (sym dot_is)
          ∙ sym (drawn_next u t.clip t.pen (trace_dot t.pen s) (e.first - s.first) k old)

    -- what the walk asks
    pub trace_walkable : Walkable u.base (spot_at u s e.first) (steps_of u s) n (length stamps) (length old)
    trace_walkable = record {
      table = table.length;
      some = omega (arith, c.some);
      few = omega (arith, c.edges.last, c.numbers.sloped.small);
      inside = λ k h. rw (spot_is k h) (spot_in k h);
      rests = λ k h.
          let l : 0 < s.axes.larger = omega (arith, c.edges.last) in
          rw (spot_is k (omega arith))
          (omega (arith, rest_below s.axes c.numbers.sloped (e.first + k) l, c.numbers.sloped.small, c.numbers.sloped.order));
    }

    module _ (on : ℕ → ℕ) (digits : (k : ℕ) → k < n → on k ≡ digit (bit t.pen.pattern (15 - (e.first - s.first + k + s.index) % 16))) where
      walked_after : (k : ℕ) → k ≤ n → walked stamps u.base (spot_at u s e.first) (steps_of u s) on k old ≡ after k
      unfolding walked listed changes_of changes
      walked_after zero h = refl
      walked_after (suc k) h =
          let l : k < n = omega arith in
          ap (stamped stamps u.base (spot_no (spot_at u s e.first) (steps_of u s) k).bit (on k)) (walked_after k (omega arith))
          ∙ ap (λ z. stamped stamps u.base z.bit (on k) (after k)) (spot_is k l)
          ∙ stamped_dot k l (digits k l) ∙ ap after (add-one k)

      pub walked_traced : walked stamps u.base (spot_at u s e.first) (steps_of u s) on n old ≡ traced t s old
      unfolding traced trace_dots
      walked_traced =
          walked_after n (omega arith)
          ∙ sym (window_drawn u t.clip t.pen (trace_dot t.pen s) (trace_window t s e c.east c.south c.edges c.some) old)
