-- Columns or rows at a distance from the centre, on either side, and the limits from lo to hi.
use Rattle.std.specs.Prelude.{ℕ, ◌≤◌, ◌≡◌, Bool, true, false, ◌&&◌, ltb, ℤ, ◌+ℤ◌}
use Rattle.model.specs.Coordinates.{coord, between}
use Rattle.coordinates.specs.Offsets.{directed, unbiased}
use Rattle.draw_circles.specs.declared.sides.Side.{Side}
use Rattle.draw_circles.specs.declared.sides.Sides.{Sides}
use Rattle.draw_circles.specs.declared.sides.Overlap.{Overlap}
use Rattle.draw_circles.specs.declared.sides.Overlap.TheVariants.{Outside, Inside}

-- the coordinate k on from another, or back, lies in the limits
abbrev pub side_in : ℕ → ℕ → ℕ → Bool → ℕ → Bool
side_in lo hi at back k = between lo hi (coord at +ℤ directed back k)

-- both coordinates at a distance lie in the limits
pub record SidesIn (lo hi at k : ℕ) : Type 0 where
  pub each : (back : Bool) → side_in lo hi at back k ≡ true

-- the coordinate z, kept 65,536 larger, and whether it is to be drawn: it is there, and lies in the limits
pub record SideAt (lo hi : ℕ) (z : ℤ) (there : Bool) (s : Side) : Type 0 where
  pub at : unbiased s.at ≡ z
  pub on : s.on ≡ (there && between lo hi z)

-- the coordinates k after and k before another: at distance 0 they are one, and the second is not there
pub record SidesOf (lo hi at k : ℕ) (s : Sides) : Type 0 where
  pub after : SideAt lo hi (coord at +ℤ directed false k) true s.after
  pub before : SideAt lo hi (coord at +ℤ directed true k) (ltb 0 k) s.before

-- none of the coordinates up to r from another lies in the limits, or all of them do
pub record OverlapOf (lo hi at r : ℕ) (o : Overlap) : Type 0 where
  pub none : o ≡ Outside → (back : Bool) (k : ℕ) → k ≤ r → side_in lo hi at back k ≡ false
  pub all : o ≡ Inside → (k : ℕ) → k ≤ r → SidesIn lo hi at k
