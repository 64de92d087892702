-- `canvas::plot` meets its contract, by the source: nothing leaves all as it was, anything else is put and counted.
use mathlib.Core.Path.{◌≡◌, refl, sym, ap, ◌∙◌}
use mathlib.Core.Bool.{true}
use lib.IntN.{pos}
use Rattle.model.specs.declared.Source.{Source}
use Rattle.model.specs.declared.Source.TheVariants as source
use Rattle.model.specs.Coordinates.{at}
use Rattle.model.specs.Dots.{dot, something}
use Rattle.canvas.specs.Canvas.{canvas, painted}
use Rattle.canvas.specs.Targets.{change_with}
use Rattle.canvas.proofs.TargetLaws.{painted_nothing, painted_hit, counted_put}
use Rattle.canvas.proofs.plot.Goals as goal

-- the last arm: the source is a colour or a value
is_something : (s : Source) → (s ≡ source.Nothing → ⊥) → something s ≡ true
is_something source.Nothing n = absurd (n refl)
is_something (source.Colour w) n = refl
is_something (source.Copied v) n = refl

pub returns-in-Nothing : goal.returns-in-Nothing
returns-in-Nothing c =
    sym
    (ap (λ (s : Source). painted c.args.t (dot (at (pos c.args.x) (pos c.args.y)) s)
    (canvas c.args.screen.now c.args.store.now c.args.hits))
    c.in-Nothing.is
    ∙ painted_nothing _ _ _)

pub returns-in_default : goal.returns-in_default
returns-in_default c =
    let source = c.args.source in
    counted_put c.args.t.picking c.args.t.area.onscreen c.args.t.area.surface
    (change_with c.args.t source c.args.x c.args.y)
    c.args.screen.now c.args.store.now _ _ c.args.hits c.set_pixel.ensures
    ∙ sym (painted_hit c.requires.0 c.requires.1 source (is_something source c.in_default.not-Nothing) _)
