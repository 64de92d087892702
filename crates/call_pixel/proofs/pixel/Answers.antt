-- Pixel answers the value of a pixel of the pane's rectangle and keeps everything.
use mathlib.Core.Path.{refl}
use Rattle.model.specs.Bitmaps.{surface_of}
use Rattle.model.specs.Calls.{on_pane}
use Rattle.call_common.proofs.CallLaws.{exec_refused, exec_refused_own, exec_value}
use Rattle.call_pixel.proofs.PixelLaws.{pixel_drawable}
use Rattle.call_pixel.proofs.pixel.Goals as goal

pub returns-in-Err : goal.returns-in-Err
returns-in-Err c = exec_refused _ _ _ c.in-Err.ensures c.refused.ensures

pub returns-in-Err-check_pixel : goal.returns-in-Err-check_pixel
returns-in-Err-check_pixel c =
    exec_refused_own _ _ _ c.in-Ok.ensures (c.in-Err-check_pixel.ensures _) c.refused-in-Err-check_pixel.ensures

pub pixel_at-value-requires : goal.pixel_at-value-requires
unfolding surface_of
pixel_at-value-requires c =
    rw c.surface_of-surface.ensures (pixel_drawable _ c.in-Ok.ensures _ _ c.in_default.ensures)

pub returns : goal.returns
unfolding surface_of on_pane
returns c =
    rw c.replied.ensures (exec_value _ _ _ c.in-Ok.ensures (c.in_default.ensures _) refl
    (rw c.surface_of-surface.ensures at c.pixel_at-value.ensures))
