-- Parts of an outline: one after the other they are drawn as one, its level sides are spans, and its upright sides traces.
use mathlib.Core.Path.{◌≡◌, refl, sym, ap, ◌∙◌}
use mathlib.Core.Bool.{Bool, true, false, not, beq}
use mathlib.Core.List.{[], append-nil}
use Prim.Native.Nat.{ℕ, ◌+◌, ◌-◌, ◌≤◌, ◌<◌}
use native.Mathlib.Nat.{zero-add}
use native.Mathlib.Omega.{arith}
use lib.IntN.{ℤ, pos, neg_ℤ, ◌+ℤ◌, ◌-ℤ◌, +ℤ_assoc, +ℤ_idr, +ℤ-neg_ℤ_cancel, -ℤ-+ℤ_cancel, neg_ℤ-+ℤ}
use Rattle.model.specs.Ranges.{listed}
use Rattle.model.specs.Coordinates.{coord, at}
use Rattle.model.specs.Lines.{minor_at}
use Rattle.model.specs.Pixels.{pattern_source}
use Rattle.model.specs.Dots.{Dot, dot}
use Rattle.coordinates.specs.Offsets.{directed, unbiased}
use Rattle.canvas.specs.declared.Target.{Target}
use Rattle.canvas.specs.Canvas.{Canvas, painted, painted_all, Painted}
use Rattle.canvas.proofs.CanvasLaws.{painted_all_append}
use Rattle.spans.specs.Spans.{span_dot, span_dots}
use Rattle.traces.specs.declared.Trace.{Trace}
use Rattle.traces.specs.Traces.{trace_dot, trace_dots}
use Rattle.draw_outlines.specs.declared.Outline.{Outline}
use Rattle.draw_outlines.specs.declared.Side.{Side}
use Rattle.draw_outlines.specs.Outlines.{Small, SideOf, TraceSideOf, Level, Upright, onward, outline_dot, outline_length, start_of}
use Rattle.draw_outlines.proofs.RectLaws.{listed_part}

-- ## One part after the other

module _ (t : Target) (i n : ℕ) (f : ℕ → Dot) (c : Canvas) {c' : Canvas} (p : Painted t (listed i n f) c c') where
  -- m more from j on make w
  pub painted_parts : (m j w : ℕ) → i + n ≡ j → n + m ≡ w → {c'' : Canvas} → Painted t (listed j m f) c' c'' → Painted t (listed i w f) c c''
  painted_parts m j w ej ew q =
      q ∙ ap (painted_all t (listed j m f)) p
      ∙ sym (painted_all_append t (listed i n f) (listed j m f) c)
      ∙ ap (λ ds. painted_all t ds c) (listed_part n m i i f f _ (λ k l. refl) (ap (λ (k : ℕ). listed k m f) (sym ej)) ∙ ap (λ (k : ℕ). listed i k f) ew)

  -- one dot more
  pub painted_more : {d : Dot} → d ≡ f (i + n) → {c'' : Canvas} → c'' ≡ painted t d c' → Painted t (listed i (n + 1) f) c c''
  unfolding listed painted_all
  painted_more e q = painted_parts 1 (i + n) (n + 1) refl refl (q ∙ ap (λ d. painted t d c') e)

-- ## Steps along an axis

-- some steps, and then more
directed_more : (z : ℤ) (back : Bool) (m k : ℕ) → z +ℤ directed back m +ℤ directed back k ≡ z +ℤ directed back (m + k)
directed_more z false m k = +ℤ_assoc z (pos m) (pos k)
directed_more z true m k =
    +ℤ_assoc z (neg_ℤ (pos m)) (neg_ℤ (pos k)) ∙ ap (λ (w : ℤ). z +ℤ w) (sym (neg_ℤ-+ℤ (pos m) (pos k)))

-- some steps, and then no more than these the other way
directed_return : (z : ℤ) (back : Bool) (m k : ℕ) → k ≤ m → z +ℤ directed back m +ℤ directed (not back) k ≡ z +ℤ directed back (m - k)
directed_return z false m k h =
    let e : m ≡ m - k + k = omega arith in
    ap (λ (n : ℕ). z +ℤ pos n -ℤ pos k) e
    ∙ ap (λ (w : ℤ). w -ℤ pos k) (sym (+ℤ_assoc z (pos (m - k)) (pos k)))
    ∙ +ℤ-neg_ℤ_cancel (z +ℤ pos (m - k)) (pos k)
directed_return z true m k h =
    let e : m ≡ m - k + k = omega arith in
    ap (λ (n : ℕ). z +ℤ neg_ℤ (pos n) +ℤ pos k) e
    ∙ ap (λ (w : ℤ). z +ℤ w +ℤ pos k) (neg_ℤ-+ℤ (pos (m - k)) (pos k))
    ∙ ap (λ (w : ℤ). w +ℤ pos k) (sym (+ℤ_assoc z (neg_ℤ (pos (m - k))) (neg_ℤ (pos k))))
    ∙ -ℤ-+ℤ_cancel (z +ℤ neg_ℤ (pos (m - k))) (pos k)

-- some steps, and then on or back
directed_onward : (z : ℤ) (way back : Bool) (m k : ℕ) → (back ≡ true → k ≤ m)
    → z +ℤ directed way m +ℤ directed (not (beq way back)) k ≡ z +ℤ directed way (onward back m k)
directed_onward z false false m k h = directed_more z false m k
directed_onward z false true m k h = directed_return z false m k (h refl)
directed_onward z true false m k h = directed_more z true m k
directed_onward z true true m k h = directed_return z true m k (h refl)

-- ## The sides

-- the first n of one list are those of another from i on
listed_from : {A : Type 0} (f g : ℕ → A) (i n : ℕ) → ((k : ℕ) → k < n → f k ≡ g (i + k)) → listed 0 n f ≡ listed i n g
unfolding listed
listed_from f g i n h =
    let e : n + 0 ≡ n = omega arith in
    sym (append-nil _) ∙ listed_part n 0 i 0 f g [] (λ k l. rw (zero-add k) (h k l)) refl ∙ ap (λ (m : ℕ). listed i m g) e

-- pixels of one column
column : (n i : ℕ) → minor_at n 0 i ≡ 0
column n i = grind arith

-- a side from its first pixel in its direction, as a span and as a trace
module _ (o : Outline) (s : Side) {x y : ℕ} (lx : x < 131072) (ly : y < 131072)
    (ex : unbiased x ≡ coord o.course.from.x +ℤ directed o.course.heading.left (start_of o s).x)
    (ey : unbiased y ≡ coord o.course.from.y +ℤ directed o.course.heading.up (start_of o s).y) (h : Small o) where
  pub level_side : Level o s
      → SideOf o s.first s.n (record { x = x; y = y; left = not (beq o.course.heading.left s.back); count = s.n; index = s.first })
  unfolding span_dots span_dot outline_dot
  level_side l = record {
    bounded = record { x = omega arith; y = omega arith; count = l.few; index = omega (arith, l.inside, h.a, h.b) };
    dots = λ pen. listed_from _ (outline_dot pen o) s.first s.n
        (λ k m. rw (ex, ey, l.along k m)
        (ap (λ (z : ℤ). dot (at z (coord o.course.from.y +ℤ directed o.course.heading.up (start_of o s).y)) (pattern_source pen (s.first + k)))
        (directed_onward (coord o.course.from.x) o.course.heading.left s.back (start_of o s).x k (l.room k m))));
  }

  abbrev trace : Trace
  trace = record {
    x = x;
    y = y;
    heading = record { left = false; up = not (beq o.course.heading.up s.back) };
    axes = record { level = false; larger = s.n - 1; smaller = 0 };
    first = 0;
    index = s.first;
  }

  pub upright_side : 0 < s.n → Upright o s → TraceSideOf o s.first s.n trace
  unfolding trace_dots trace_dot outline_dot
  upright_side some l = record {
    small = record {
      x = lx;
      y = ly;
      sloped = record { order = omega arith; small = omega (arith, l.few) };
      first = omega arith;
      index = omega (arith, l.inside, h.a, h.b);
    };
    dots = λ pen.
        let e : s.n - 1 + 1 - 0 ≡ s.n = omega arith in
        ap (λ (m : ℕ). listed 0 m (trace_dot pen trace)) e
        ∙ listed_from _ (outline_dot pen o) s.first s.n
        (λ k m.
        let z : k + 0 ≡ k = omega arith in
        let i : k + s.first ≡ s.first + k = omega arith in
        rw (column (s.n - 1) (k + 0), z, i, +ℤ_idr (unbiased x), ex, ey, l.along k m)
        (ap (λ (z : ℤ). dot (at (coord o.course.from.x +ℤ directed o.course.heading.left (start_of o s).x) z) (pattern_source pen (s.first + k)))
        (directed_onward (coord o.course.from.y) o.course.heading.up s.back (start_of o s).y k (l.room k m))));
  }

-- ## How many pixels there are

pub length_whole : (a b : ℕ) → 0 < a → 0 < b → a + b + 1 + (a + b - 1) ≡ outline_length a b
length_whole a b h k = grind arith
