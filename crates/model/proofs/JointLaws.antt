-- POLYLINE's pattern (02, A.4): dot j of a POLYLINE, from 0, takes pattern index j, whatever segment it is of.
use mathlib.Core.Path.{◌≡◌, refl, sym, ap, ap₂, ◌∙◌}
use mathlib.Core.List.{List, [], ◌∷◌, ◌++◌, map, map-append}
use Prim.Native.Nat.{ℕ, zero, suc, ◌+◌}
use native.Mathlib.Nat.{zero-add}
use native.Mathlib.Omega.{arith}
use lib.ListN.{length}
use Rattle.model.specs.Ranges.{listed}
use Rattle.model.specs.Coordinates.{Place, Point, offset, place, moved}
use Rattle.model.specs.Pixels.{Pen, pattern_source}
use Rattle.model.specs.Dots.{Dot, dot}
use Rattle.model.specs.Lines.{Pair, offset_x, offset_y, pixels_from, segment_dots, segments, polyline, patterned}
use Rattle.model.proofs.DotLaws.{patterned_append, patterned_listed}

-- where dots lie
abbrev places : List Dot → List Place
places = map (λ (d : Dot). d.place)

module _ (pen : Pen) (index : ℕ) (f : ℕ → Place) where
  abbrev indexed : ℕ → Dot
  indexed k = dot (f k) (pattern_source pen (k + index))

  places_listed : (n k : ℕ) → places (listed k n indexed) ≡ listed k n f
  unfolding listed
  places_listed zero k = refl
  places_listed (suc n) k = ap (λ r. f k ∷ r) (places_listed n (suc k))

  places_length : (n k : ℕ) → length (places (listed k n indexed)) ≡ n
  unfolding listed
  places_length zero k = refl
  places_length (suc n) k = ap suc (places_length n (suc k))

  indexed_patterned : (n : ℕ) → listed 0 n indexed ≡ patterned pen index (places (listed 0 n indexed))
  indexed_patterned n =
      sym (patterned_listed pen (λ k. k + index) (λ k. omega arith) n 0 f)
      ∙ ap₂ (λ (i : ℕ) (l : List Place). patterned pen i l) (zero-add index) (sym (places_listed n 0))

segments_patterned : (pen : Pen) (p : Point) (first index : ℕ) (ms : List Pair)
    → (segments pen p first index ms).dots ≡ patterned pen index (places (segments pen p first index ms).dots)
unfolding segments segment_dots patterned
segments_patterned pen p first index [] = refl
segments_patterned pen p first index (m ∷ ms) =
    let f : ℕ → Place = λ k. offset (place p) (offset_x m.dx m.dy (k + first)) (offset_y m.dx m.dy (k + first)) in
    let n = pixels_from first m.dx m.dy in
    let a = segment_dots pen (place p) m.dx m.dy first index in
    let b = (segments pen (moved p m.dx m.dy) 1 (index + n) ms).dots in
    ap₂ {C = List Dot} ◌++◌
    (indexed_patterned pen index f n)
    (segments_patterned pen (moved p m.dx m.dy) 1 (index + n) ms
    ∙ ap (λ (l : ℕ). patterned pen (index + l) (places b)) (sym (places_length pen index f n 0)))
    ∙ sym (patterned_append pen index (places a) (places b))
    ∙ ap (patterned pen index) (sym (map-append (λ (d : Dot). d.place) a b))

-- "A dashed polyline now carries its pattern on through every joint"
pub polyline_patterned : (pen : Pen) (p : Point) (ms : List Pair)
    → (polyline pen p ms).dots ≡ patterned pen 0 (places (polyline pen p ms).dots)
unfolding polyline
polyline_patterned pen p ms = segments_patterned pen p 0 0 ms
