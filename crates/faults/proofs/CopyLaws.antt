-- BIT_BLT_M's source bitmap, once it keeps the rule: what of it can be read.
use mathlib.Core.Path.{◌≡◌, sym, subst}
use mathlib.Core.Bool.{false}
use Prim.Native.Nat.{◌^◌}
use Rattle.model.specs.declared.Geometry.{Geometry}
use Rattle.model.specs.declared.Row.{Row}
use Rattle.model.specs.declared.Bitmap.{Bitmap}
use Rattle.model.specs.declared.Surface.{Surface}
use Rattle.model.specs.Bitmaps.{surface_of, rule_broken}
use Rattle.model.specs.Faults.{no_bitmap}
use Rattle.bitmaps.specs.Areas.{Active, Readable}
use Rattle.fault_copies.proofs.ReadableLaws.{bitmap_small}

-- its rows have small addresses
pub source_readable : (g : Geometry) (r : Row) {active : Bitmap} (source : Bitmap) (s : Surface) → Active g r active → no_bitmap source ≡ false
    → s ≡ surface_of g r source → rule_broken g r source ≡ false → Readable s (2 ^ 32)
source_readable g r source s a named at kept =
    subst (λ (u : Surface). Readable u (2 ^ 32)) (sym at) (bitmap_small g r a.placed source named kept)
