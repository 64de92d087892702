-- Which pixels of a trace lie in the clip: along the major axis their numbers decide, along the minor axis their offsets, which never fall.
use Rattle.std.proofs.Common.{◌≡◌, ℕ, ◌+◌, ◌<◌, ◌≤◌, max, Bool, true, false, ◌&&◌, ltb, leb, sym, ◌∙◌, ap₂, arith, leb-true}
use native.Mathlib.Decide.{dec_lt}
use Rattle.model.specs.declared.Clip.{Clip}
use Rattle.model.proofs.Decisions.{both_true, both_of, and_false, and_left}
use Rattle.coordinates.specs.Offsets.{unbiased, Among, Between}
use Rattle.coordinates.specs.declared.Edges.{Edges}
use Rattle.coordinates.proofs.EdgeLaws.{within_true, within_early, within_late}
use Rattle.traces.specs.declared.Trace.{Trace}
use Rattle.traces.specs.declared.slopes.Axes.{Axes}
use Rattle.traces.specs.Slopes.{Sloped, minor_of, Reaches}
use Rattle.traces.specs.Edges.{Joint, TraceEdges}
use Rattle.traces.proofs.SlopeLaws.{minor_most}

module _ (a : Axes) (first : ℕ) (major minor : Edges) {from end start : ℕ} (e : Edges) (low : Reaches a minor.first from)
    (high : Reaches a minor.second end) (begin : start ≡ max first (max major.first from)) (few : major.second ≤ a.larger + 1)
    (m : Among start end major.second e) where
  abbrev counted : ℕ → Bool
  counted i = leb major.first i && ltb i major.second

  abbrev offset : ℕ → Bool
  offset i = leb minor.first (minor_of a i) && ltb (minor_of a i) minor.second

  -- below the first: the number or the offset is too small
  early : (i : ℕ) → first ≤ i → i ≤ a.larger → i < start → Dec (i < major.first) → (counted i && offset i) ≡ false
  early i l h k (yes p) = and_left _ _ (within_early major.first i major.second p)
  early i l h k (no p) =
      and_false (counted i) _ (within_early minor.first (minor_of a i) minor.second (low.below i h (omega arith)))

  both : (i : ℕ) → first ≤ i → i ≤ a.larger → Dec (i < major.second) → Dec (i < start) → Dec (i < end)
      → (counted i && offset i) ≡ (leb e.first i && ltb i e.second)
  both i l h (no p) _ _ =
      and_left _ _ (within_late major.first i major.second (omega arith))
      ∙ sym (within_late e.first i e.second (omega (arith, m.last)))
  both i l h (yes p) (yes q) _ =
      early i l h q (dec_lt i major.first) ∙ sym (within_early start i end q) ∙ m.exactly i p
  both i l h (yes p) (no q) (no r) =
      and_false (counted i) _ (within_late minor.first (minor_of a i) minor.second
      (let n : minor.second ≤ minor_of a i = high.from i h (omega arith) in n))
      ∙ sym (within_late start i end (omega arith)) ∙ m.exactly i p
  both i l h (yes p) (no q) (yes r) =
      both_of (within_true major.first i major.second (omega arith) p)
      (within_true minor.first (minor_of a i) minor.second (low.from i h (omega arith)) (high.below i h r))
      ∙ sym (within_true start i end (omega arith) r) ∙ m.exactly i p

  pub joint_is : Joint a first major minor e
  joint_is = record {
    exactly = λ i l h. both i l h (dec_lt i major.second) (dec_lt i start) (dec_lt i end);
    early = λ s.
        let t = both_true (leb start e.first) (ltb e.first end)
        (m.exactly e.first (omega (arith, m.last)) ∙ within_true e.first e.first e.second (omega arith) s) in
        let k = leb-true start e.first t.0 in
        omega arith;
    ordered = m.ordered;
    last = omega (arith, m.last);
  }

swapped : (p q : Bool) → (p && q) ≡ (q && p)
swapped true true = λ i. true
swapped true false = λ i. false
swapped false true = λ i. false
swapped false false = λ i. false

module _ (clip : Clip) (s : Trace) (h : Sloped s.axes) {columns rows e : Edges} where
  pub edges_level : s.axes.level ≡ true → Between clip.xmin clip.xmax (unbiased s.x) s.heading.left (s.axes.larger + 1) columns
      → Between clip.ymin clip.ymax (unbiased s.y) s.heading.up (s.axes.smaller + 1) rows → Joint s.axes s.first columns rows e
      → TraceEdges clip s e
  edges_level v p q j = record {
    exactly = λ i l k. rw v (ap₂ (λ (b c : Bool). b && c)
        (p.exactly i (omega arith)) (q.exactly (minor_of s.axes i) (omega (arith, minor_most s.axes h i k)))) ∙ j.exactly i l k;
    early = j.early;
    ordered = j.ordered;
    last = j.last;
  }

  pub edges_steep : s.axes.level ≡ false → Between clip.xmin clip.xmax (unbiased s.x) s.heading.left (s.axes.smaller + 1) columns
      → Between clip.ymin clip.ymax (unbiased s.y) s.heading.up (s.axes.larger + 1) rows → Joint s.axes s.first rows columns e
      → TraceEdges clip s e
  edges_steep v p q j = record {
    exactly = λ i l k. rw v (ap₂ (λ (b c : Bool). b && c)
        (p.exactly (minor_of s.axes i) (omega (arith, minor_most s.axes h i k))) (q.exactly i (omega arith)))
        ∙ swapped (leb columns.first (minor_of s.axes i) && ltb (minor_of s.axes i) columns.second) (leb rows.first i && ltb i rows.second)
        ∙ j.exactly i l k;
    early = j.early;
    ordered = j.ordered;
    last = j.last;
  }
