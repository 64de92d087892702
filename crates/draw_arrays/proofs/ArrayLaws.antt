-- POLYLINE and SCAN_LINES line by line: what is left to draw, drawn on what the buffers are now, gives the whole.
use mathlib.Core.Path.{◌≡◌, sym, ap, ◌∙◌}
use mathlib.Core.Bool.{false}
use mathlib.Core.List.{List, [], ◌∷◌}
use Prim.Native.Nat.{ℕ, suc, ◌+◌, ◌-◌, ◌*◌, ◌≤◌, ◌<◌}
use native.Mathlib.Numerals.{add-one}
use native.Mathlib.Omega.{arith}
use lib.IntN.{pos}
use lib.ListN.{length}
use Rattle.model.specs.Ranges.{listed}
use Rattle.model.specs.Words.{word_at}
use Rattle.model.specs.Coordinates.{coord, place, moved}
use Rattle.model.specs.declared.Point.{Point}
use Rattle.model.specs.declared.Pen.{Pen}
use Rattle.model.specs.Dots.{Drawing, drawing, prepended}
use Rattle.model.specs.Lines.{line_dots, pixels_from, segments, Pair, Triple, scan_lines}
use Rattle.canvas.specs.declared.Target.{Target}
use Rattle.canvas.specs.declared.Drawn.{Drawn}
use Rattle.canvas.specs.Canvas.{Canvas, canvas, Drew}
use Rattle.canvas.specs.Targets.{Ready}
use Rattle.coordinates.proofs.SignedLaws.{nat_abs_coord}
use Rattle.canvas.proofs.LoopLaws.{Underway, underway_first, underway_next, underway_last}
use Rattle.draw_lines.specs.declared.segments.Segment.{Segment}
use Rattle.traces.specs.Slopes.{longest_line}
use Rattle.draw_lines.specs.Segments.{dots_of}
use Rattle.draw_lines.proofs.SegmentLaws.{segment_dots_few}
use Rattle.draw_arrays.specs.declared.Triple as code
use Rattle.draw_arrays.specs.Arrays.{segment_words, triple_words}

-- ## A loop over an array

-- one segment of those that are left: none sets the trap flag
pub underway_segment : {t : Target} {whole rest : Drawing} {c₀ : Canvas} {screen store : List ℕ} {d : Drawn} {k n : ℕ}
    → Underway t whole rest longest_line c₀ screen store d k n → Ready t (length c₀.screen) (length c₀.store) → d.trap ≡ false → k < n
    → (rest' : Drawing) (from : Point) (s : Segment) {to : Point} {screen' store' : List ℕ} {d' : Drawn}
    → rest ≡ prepended (dots_of t.pen from s) rest'
    → Drew t (drawing (dots_of t.pen from s) to) (canvas screen store d.hits) d' screen' store'
    → Underway t whole rest' longest_line c₀ screen' store' d' (k + 1) n
underway_segment {t} u r f l rest' from s e w =
    underway_next u rest' r (dots_of t.pen from s) false
    (segment_dots_few t.pen (place from) (coord s.dx) (coord s.dy) s.first s.index (nat_abs_coord s.dx) (nat_abs_coord s.dy))
    e (rw f w.trap) l w.dots

module _ {A : Type 0} (draw : Point → List A → Drawing) (item : ℕ → A) (n : ℕ) where
  -- what is left to draw from item k on, the position being p
  abbrev pub items_left : ℕ → Point → Drawing
  items_left k p = draw p (listed k (n - k) item)

  items_left_next : (k : ℕ) (p : Point) → k < n → items_left k p ≡ draw p (item k ∷ listed (k + 1) (n - (k + 1)) item)
  unfolding listed
  items_left_next k p h =
      let e : n - k ≡ suc (n - (k + 1)) = omega arith in
      ap (λ (m : ℕ). draw p (listed k m item)) e ∙ ap (λ (m : ℕ). draw p (item k ∷ listed m (n - (k + 1)) item)) (sym (add-one k))

  -- all of it at the first turn
  pub items_first : (t : Target) (screen store : List ℕ) (from : Point)
      → Underway t (draw from (listed 0 n item)) (items_left 0 from) longest_line (canvas screen store 0) screen store
      (record { position = from; trap = false; hits = 0 }) 0 n
  items_first t screen store from =
      let e : n - 0 ≡ n = omega arith in
      rw e (underway_first t (draw from (listed 0 n item)) longest_line screen store from n)

  -- .. and nothing after the last
  pub items_last : {t : Target} {whole : Drawing} {c₀ : Canvas} {screen store : List ℕ} {d : Drawn} {k : ℕ}
      → Underway t whole (items_left k d.position) longest_line c₀ screen store d k n → n ≤ k → draw d.position [] ≡ drawing [] d.position
      → Drew t whole c₀ d screen store
  unfolding listed
  items_last {d = d} {k = k} u l none =
      let e : n - k ≡ 0 = omega arith in
      underway_last u (ap (λ (m : ℕ). draw d.position (listed k m item)) e ∙ none)

-- ## POLYLINE

-- pair k of an array
abbrev pub pair_at : List ℕ → ℕ → ℕ → Pair
pair_at store a k = record { dx = coord (word_at store (a + 4 * k)); dy = coord (word_at store (a + 4 * k + 2)) }

-- a pair whose words read alike
pub segment_same : (l m : List ℕ) (a first index : ℕ) → ((j : ℕ) → a ≤ j → j + 1 < a + 4 → word_at l j ≡ word_at m j)
    → segment_words l a first index ≡ segment_words m a first index
segment_same l m a first index h =
    let p = h a (omega arith) (omega arith) in
    let q = h (a + 2) (omega arith) (omega arith) in
    λ i. record { dx = p i; dy = q i; first = first; index = index }

-- what is left to draw from pair k on, the next segment beginning with pixel `first` and index `index`
abbrev pub segments_left : Pen → List ℕ → ℕ → ℕ → ℕ → ℕ → ℕ → Point → Drawing
segments_left pen store a n first index k p = items_left (λ q. segments pen q first index) (pair_at store a) n k p

-- a segment, and what is left from its far end, from pixel 1 on with the next index
pub segments_next : (pen : Pen) (store : List ℕ) (a n k first index : ℕ) (p p' : Point) (s : Segment) {count : ℕ} → k < n
    → s ≡ segment_words store (a + 4 * k) first index → p' ≡ moved p (coord s.dx) (coord s.dy)
    → count ≡ pixels_from s.first (coord s.dx) (coord s.dy)
    → segments_left pen store a n first index k p
    ≡ prepended (dots_of pen p s) (segments_left pen store a n 1 (index + count) (k + 1) p')
unfolding segments
segments_next pen store a n k first index p p' s h es ep ec =
    items_left_next (λ q. segments pen q first index) (pair_at store a) n k p h ∙ rw (ep, ec, es)

-- ## SCAN_LINES

-- triple k of an array
abbrev pub triple_at : List ℕ → ℕ → ℕ → Triple
triple_at store a k =
    record { dx = coord (word_at store (a + 6 * k)); dy = coord (word_at store (a + 6 * k + 2)); len = coord (word_at store (a + 6 * k + 4)) }

-- a triple whose words read alike
pub triple_same : (l m : List ℕ) (a : ℕ) → ((j : ℕ) → a ≤ j → j + 1 < a + 6 → word_at l j ≡ word_at m j) → triple_words l a ≡ triple_words m a
triple_same l m a h =
    let p = h a (omega arith) (omega arith) in
    let q = h (a + 2) (omega arith) (omega arith) in
    let r = h (a + 4) (omega arith) (omega arith) in
    λ i. record { dx = p i; dy = q i; len = r i }

-- a horizontal LINE where the position has moved to, and what is left from there
pub scan_lines_next : (pen : Pen) (store : List ℕ) (a n k : ℕ) (p p' : Point) (s : code.Triple) → k < n
    → s ≡ triple_words store (a + 6 * k) → p' ≡ moved p (coord s.dx) (coord s.dy)
    → items_left (scan_lines pen) (triple_at store a) n k p
    ≡ prepended (line_dots pen (place p') (coord s.len) (pos 0)) (items_left (scan_lines pen) (triple_at store a) n (k + 1) p')
unfolding scan_lines
scan_lines_next pen store a n k p p' s h es ep = items_left_next (scan_lines pen) (triple_at store a) n k p h ∙ rw (ep, es)
