-- Offsets in a direction, and coordinates as indices.
use Rattle.std.specs.Prelude.{◌≡◌, ℕ, ◌<◌, ◌≤◌, Bool, true, false, cond, ◌&&◌, ℤ, pos, ◌+ℤ◌, ◌-ℤ◌, neg_ℤ, nat_le, nat_lt, Some, None}
use Rattle.std.specs.declared.option.Option.{Option}
use Rattle.model.specs.Coordinates.{between, index}
use Rattle.coordinates.specs.declared.Edges.{Edges}

-- k forward, or back
abbrev pub directed : Bool → ℕ → ℤ
directed false k = pos k
directed true k = neg_ℤ (pos k)

-- a coordinate from lo to hi is that index
unfoldable pub index_in : ℕ → ℕ → ℤ → Option ℕ
index_in lo hi z = cond (between lo hi z) (Some (index z)) None

-- a coordinate that is kept 65,536 larger
abbrev pub unbiased : ℕ → ℤ
unbiased n = pos n -ℤ pos 65536

-- of the numbers below n, those from first to below end
pub record Among (first end n : ℕ) (e : Edges) : Type 0 where
  pub exactly : (i : ℕ) → i < n → (nat_le first i && nat_lt i end) ≡ (nat_le e.first i && nat_lt i e.second)
  pub ordered : e.first ≤ e.second
  pub last : e.second ≤ n

-- of n steps from z, on or back, those from the first edge to below the second lie from lo to hi, and no other
pub record Between (lo hi : ℕ) (z : ℤ) (back : Bool) (n : ℕ) (e : Edges) : Type 0 where
  pub exactly : (i : ℕ) → i < n → between lo hi (z +ℤ directed back i) ≡ (nat_le e.first i && nat_lt i e.second)
  pub ordered : e.first ≤ e.second
  pub last : e.second ≤ n
