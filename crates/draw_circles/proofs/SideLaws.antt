-- Columns or rows on either side of the centre, by numbers that are kept 65,536 larger.
use mathlib.Core.Path.{◌≡◌, refl, sym, ap, ◌∙◌}
use mathlib.Core.Bool.{Bool, true, false, ◌&&◌}
use Prim.Native.Nat.{ℕ, ◌+◌, ◌-◌, ◌%◌, ◌≤◌, ◌<◌}
use native.Mathlib.Omega.{arith}
use borrow.Author.Tests.{leb-true, leb-false, le-leb, lt-leb, le-ltb}
use lib.Dec.{leb}
use lib.IntN.{ℤ, pos, neg_ℤ, ◌+ℤ◌, -ℤ-+ℤ_cancel}
use Rattle.model.specs.Coordinates.{coord, between, index}
use Rattle.model.proofs.Decisions.{split, both_true, both_of, and_false, and_left}
use Rattle.coordinates.specs.Offsets.{directed, unbiased}
use Rattle.coordinates.proofs.EdgeLaws.{coord_unbiased, unbiased_on, unbiased_back, between_unbiased}
use Rattle.draw_circles.specs.Sides.{side_in}

-- a coordinate that is not negative
pub unbiased_pos : (x : ℕ) → 65536 ≤ x → unbiased x ≡ pos (x - 65536)
unbiased_pos x h = rw (le-ltb x 65536 h) refl

unbiased_same : (a b : ℕ) → unbiased a ≡ unbiased b → a ≡ b
unbiased_same a b e =
    let f : pos a ≡ pos b
    = sym (-ℤ-+ℤ_cancel (pos a) (pos 65536)) ∙ ap (λ (z : ℤ). z +ℤ pos 65536) e ∙ -ℤ-+ℤ_cancel (pos b) (pos 65536) in
    ap index f

-- a coordinate, 65,536 larger
abbrev biased_at : ℕ → ℕ
biased_at p = (p + 32768) % 65536 + 32768

-- .. and those at a distance from it
abbrev biased_side : ℕ → Bool → ℕ → ℕ
biased_side p false k = biased_at p + k
biased_side p true k = biased_at p - k

biased_side_lem : (p : ℕ) → p < 65536 → (back : Bool) (k : ℕ) → k ≤ 32768 → coord p +ℤ directed back k ≡ unbiased (biased_side p back k)
biased_side_lem p h false k l = ap (λ (z : ℤ). z +ℤ pos k) (coord_unbiased p h) ∙ unbiased_on (biased_at p) k
biased_side_lem p h true k l = ap (λ (z : ℤ). z +ℤ neg_ℤ (pos k)) (coord_unbiased p h) ∙ unbiased_back (biased_at p) k (omega arith)

-- a coordinate at a distance in the limits, by its number
pub side_in_lem : (lo hi p : ℕ) (back : Bool) (k x : ℕ) → unbiased x ≡ coord p +ℤ directed back k
    → (leb (lo + 65536) x && leb x (hi + 65536)) ≡ side_in lo hi p back k
side_in_lem lo hi p back k x e = sym (between_unbiased lo hi x) ∙ ap (between lo hi) e

-- ## The coordinates up to r from another

module _ (lo hi p r after before : ℕ) (h : p < 65536) (l : r ≤ 32768)
    (a : unbiased after ≡ coord p +ℤ directed false r) (b : unbiased before ≡ coord p +ℤ directed true r) where
  last_is : after ≡ biased_at p + r
  last_is = unbiased_same after (biased_at p + r) (a ∙ biased_side_lem p h false r l)

  first_is : before ≡ biased_at p - r
  first_is = unbiased_same before (biased_at p - r) (b ∙ biased_side_lem p h true r l)

  -- each lies between the first and the last
  module _ (back : Bool) (k : ℕ) (m : k ≤ r) where
    in_order : (before ≤ biased_side p back k) × (biased_side p back k ≤ after)
    in_order = go back
      where
        go : (w : Bool) → (before ≤ biased_side p w k) × (biased_side p w k ≤ after)
        go false = (omega (arith, first_is), omega (arith, last_is))
        go true = (omega (arith, first_is), omega (arith, last_is))

    side_number : side_in lo hi p back k ≡ (leb (lo + 65536) (biased_side p back k) && leb (biased_side p back k) (hi + 65536))
    side_number = ap (between lo hi) (biased_side_lem p h back k (omega arith)) ∙ between_unbiased lo hi (biased_side p back k)

    pub side_none : (leb (lo + 65536) after && leb before (hi + 65536)) ≡ false → side_in lo hi p back k ≡ false
    side_none e = side_number ∙ split (leb (lo + 65536) after)
        (λ f.
        let g : leb before (hi + 65536) ≡ false = rw f at e in
        and_false (leb (lo + 65536) (biased_side p back k)) _
        (lt-leb (biased_side p back k) (hi + 65536) (omega (arith, leb-false before (hi + 65536) g, in_order.0))))
        (λ f.
        and_left (leb (lo + 65536) (biased_side p back k)) _
        (lt-leb (lo + 65536) (biased_side p back k) (omega (arith, leb-false (lo + 65536) after f, in_order.1))))

    pub side_all : (leb (lo + 65536) before && leb after (hi + 65536)) ≡ true → side_in lo hi p back k ≡ true
    side_all e =
        let t = both_true (leb (lo + 65536) before) (leb after (hi + 65536)) e in
        side_number ∙ both_of (le-leb (lo + 65536) (biased_side p back k) (omega (arith, leb-true (lo + 65536) before t.0, in_order.0)))
        (le-leb (biased_side p back k) (hi + 65536) (omega (arith, leb-true after (hi + 65536) t.1, in_order.1)))
