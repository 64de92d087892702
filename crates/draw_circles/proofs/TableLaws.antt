-- The stamps that a circle is drawn with in pick mode.
use mathlib.Core.Path.{refl}
use mathlib.Core.List.{List, ◌++◌}
use Prim.Native.Nat.{ℕ}
use lib.ListN.{drop, replicate}
use Rattle.raster.proofs.Table.{each}
use Rattle.stamps.specs.Stamps.{kept_at, flipped_at}
use Rattle.draw_circles.specs.Tables.{Blank}

-- stamps that change nothing: what of a byte is kept is all, what is flipped nothing
pub blank_is : Blank (replicate 32 255 ++ drop 32 (replicate 64 0))
blank_is =
    let s : List ℕ = replicate 32 255 ++ drop 32 (replicate 64 0) in
    record { kept = each 16 (kept_at s 1) (λ o. 255) refl; flipped = each 16 (flipped_at s 1) (λ o. 0) refl }
