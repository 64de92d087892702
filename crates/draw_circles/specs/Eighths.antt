-- The walk along an eighth of the circle.
use Rattle.std.specs.Prelude.{ℕ, ◌+◌, ◌*◌, ◌≤◌, ◌<◌, ◌≡◌}
use Rattle.draw_circles.specs.declared.EighthPoint.{EighthPoint}

-- a point (i,j) of the walk for radius r: j × (j+1) + i² is above r² by the excess, and where the point is on
-- the eighth, j × (j−1) + i², which is 2j less, is below it
pub record Along (r : ℕ) (p : EighthPoint) : Type 0 where
  pub excess : p.excess + r * r ≡ p.j * (p.j + 1) + p.i * p.i
  pub near : p.i ≤ p.j → p.excess < p.j + p.j
  pub inside : p.j ≤ r

-- a column further on the same walk, whatever the radius
pub record Further (p q : EighthPoint) : Type 0 where
  pub column : q.i ≡ p.i + 1
  pub along : (r : ℕ) → Along r p → Along r q
