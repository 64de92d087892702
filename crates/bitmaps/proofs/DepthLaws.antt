-- What the tests of oddness and of depths say.
use mathlib.Core.Path.{◌≡◌}
use mathlib.Core.Bool.{true, false}
use Prim.Native.Nat.{ℕ, ◌%◌, ◌≤◌}
use native.Mathlib.Omega.{arith}
use lib.Dec.{eqb}
use borrow.Author.Tests.{eqb-false}
use Rattle.model.specs.Bitmaps.{is_depth, Depth}
use Rattle.model.proofs.PlaceLaws.{depth_bounds}
use Rattle.model.proofs.SetupLaws.{depth_of}

-- not odd is even
pub even_of : (a : ℕ) → eqb (a % 2) 1 ≡ false → a % 2 ≡ 0
even_of a h = let n = eqb-false (a % 2) 1 h in omega arith

-- bits per pixel that pass the test
pub record Known (b : ℕ) : Type 0 where
  pub depth : Depth b
  pub most : b ≤ 8

pub is_depth_known : (b : ℕ) → is_depth b ≡ true → Known b
is_depth_known b h = let d = depth_of b h in record { depth = d; most = (depth_bounds d).1 }
