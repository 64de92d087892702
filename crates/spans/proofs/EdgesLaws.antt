-- The edges of a span whose clip lies in the bitmap.
use mathlib.Core.Path.{◌≡◌, sym, ◌∙◌}
use mathlib.Core.Bool.{false, ◌&&◌}
use Prim.Native.Nat.{ℕ, ◌+◌, ◌≤◌, ◌<◌}
use native.Mathlib.Decide.{dec_lt}
use native.Mathlib.Omega.{arith}
use borrow.Author.Tests.{le-leb}
use lib.Dec.{leb, ltb}
use Rattle.model.specs.Dots.{lies}
use Rattle.model.specs.declared.Clip.{Clip}
use Rattle.model.specs.declared.Surface.{Surface}
use Rattle.model.proofs.Decisions.{holds, both_of, and_true}
use Rattle.model.proofs.DotLaws.{lies_clip}
use Rattle.coordinates.specs.Offsets.{unbiased, Between}
use Rattle.coordinates.specs.declared.Edges.{Edges}
use Rattle.coordinates.proofs.EdgeLaws.{within_true, within_early, within_late, between_unbiased}
use Rattle.spans.specs.declared.Span.{Span}
use Rattle.spans.specs.Spans.{span_place, EdgesOf}

module _ (u : Surface) (c : Clip) (wide : c.xmax < u.width) (high : c.ymax < u.height) (s : Span) where
  -- exact edges are equal where no pixel lies in both, and only there
  edges_are : (e : Edges) → ((i : ℕ) → i < s.count → lies u c (span_place s i) ≡ (leb e.first i && ltb i e.second))
      → e.first ≤ e.second → e.second ≤ s.count → EdgesOf u c s e
  edges_are e f o l = record {
    exactly = f;
    none = λ q i h. f i h ∙ empty q i;
    equal = λ n. elim (dec_lt e.first e.second) [
      | yes h ↦ let k : e.first < s.count = omega arith in
          absurd (holds (sym (n e.first k) ∙ f e.first k ∙ within_true e.first e.first e.second (omega arith) h))
      | no h ↦ omega arith
    ];
    ordered = o;
    last = l;
  }
    where
      empty : e.first ≡ e.second → (i : ℕ) → (leb e.first i && ltb i e.second) ≡ false
      empty q i = elim (dec_lt i e.first) [
        | yes h ↦ within_early e.first i e.second h
        | no h ↦ within_late e.first i e.second (omega arith)
      ]

  -- its row lies in the clip: the columns' edges are the span's
  pub row_inside : c.ymin + 65536 ≤ s.y → s.y ≤ c.ymax + 65536 → (e : Edges)
      → Between c.xmin c.xmax (unbiased s.x) s.left s.count e → EdgesOf u c s e
  row_inside h k e b = edges_are e
      (λ i l. lies_clip u c wide high (span_place s i)
      ∙ and_true _ _ (between_unbiased c.ymin c.ymax s.y ∙ both_of (le-leb _ s.y h) (le-leb s.y _ k))
      ∙ b.exactly i l)
      b.ordered b.last
