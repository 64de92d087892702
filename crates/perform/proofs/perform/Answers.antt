-- `perform` meets its contract: a drawing command has a drawing for its effect, any other command another record.
use borrow.Enum.Refused.{opened}
use Rattle.model.specs.Bitmaps.{pane_surface, pixels}
use Rattle.perform.proofs.KindLaws.{drawing_draws, record_changes}
use Rattle.perform.proofs.ReadyLaws.{sound_landing}
use Rattle.perform.proofs.PerformLaws.{performs_record, performs_drawing}
use Rattle.perform.proofs.perform.Goals as goal

-- a drawing
pub returns-in-Point : goal.returns-in-Point
returns-in-Point c =
    let a = c.args in
    let k = drawing_draws a.f.geometry a.f.row a.p (pixels (pane_surface a.f.geometry a.f.row) a.screen.now) a.store.now a.next
    a.c
    c.in-Point.in-Point-own.keys1 in
    performs_drawing _ _ _ _ _ _ _ k.drawing _ _ _ (sound_landing c.requires.sound) (k.active c.requires.clear) k.is
    c.draw-d.ensures c.drew.ensures

-- another record
pub returns-in_default : goal.returns-in_default
returns-in_default c =
    let a = c.args in
    let k = record_changes a.f.geometry a.f.row a.p (pixels (pane_surface a.f.geometry a.f.row) a.screen.now) a.store.now a.next
    a.c
    (opened c.in_default.in_default-own.keys2) in
    performs_record _ _ _ _ _ _ _ _ k.becoming k.is c.settle.ensures c.quiet.ensures
