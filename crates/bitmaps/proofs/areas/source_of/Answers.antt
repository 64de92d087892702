-- The bits per pixel are those of the active bitmap's surface; there are at most 8, so they fit a word.
use mathlib.Core.Path.{◌≡◌, ap}
use native.Mathlib.Omega.{arith}
use Rattle.model.specs.declared.Surface.{Surface}
use Rattle.model.specs.Bitmaps.{surface_of}
use Rattle.bitmaps.proofs.AreaLaws.{active_bits}
use Rattle.bitmaps.proofs.areas.source_of.Goals as goal

pub overflow_cast-s : goal.overflow_cast-s
overflow_cast-s c =
    let bits : c.surface_of-s.result.bits ≡ (surface_of c.args.f.geometry c.args.f.row
    c.args.active).bits = ap (λ (s : Surface). s.bits) c.surface_of-s.ensures in
    omega (arith, bits, active_bits _ _ _ c.requires)
