-- What 6 lets pass, as the checks after it ask it.
use mathlib.Core.Path.{◌≡◌}
use mathlib.Core.Bool.{false}
use Prim.Native.Nat.{ℕ}
use Rattle.model.specs.declared.Geometry.{Geometry}
use Rattle.model.specs.Setup.{geometry_bad}
use Rattle.model.proofs.SetupLaws.{geometry_bad_good}
use Rattle.refusals.specs.Sizes.{Sized}

pub geometry_bad_sized : (g : Geometry) (n : ℕ) → geometry_bad g n ≡ false → Sized g n
geometry_bad_sized g n h =
    let s = geometry_bad_good g n h in
    record { width = s.width; height = s.height; depth = s.depth; count = s.count }
