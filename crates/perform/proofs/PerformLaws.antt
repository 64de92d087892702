-- What a command that is free of faults leaves: where it changes the record alone, and where it draws.
use mathlib.Core.Path.{◌≡◌, sym, ap, ap₂, subst, ◌∙◌}
use mathlib.Core.Bool.{Bool, true, false, cond}
use mathlib.Core.List.{List}
use Prim.Native.Nat.{ℕ, ◌≤◌}
use native.Mathlib.Omega.{arith}
use Rattle.model.specs.declared.Geometry.{Geometry}
use Rattle.model.specs.declared.Row.{Row}
use Rattle.model.specs.declared.Pane.{Pane}
use Rattle.model.specs.declared.Point.{Point}
use Rattle.model.specs.declared.Command.{Command}
use Rattle.model.specs.Bitmaps.{pane_surface, pixels}
use Rattle.model.specs.Dots.{Drawing}
use Rattle.model.specs.Effects.{Effect, becomes, draws, effect_of}
use Rattle.model.specs.Faults.{no_bitmap}
use Rattle.model.specs.Pixels.{changes}
use Rattle.model.specs.Runs.{carried}
use Rattle.model.specs.Steps.{drew_pane, plan_of}
use Rattle.canvas.specs.declared.Drawn.{Drawn}
use Rattle.canvas.specs.Canvas.{Canvas}
use Rattle.canvas.proofs.LandingLaws.{Landing}
use Rattle.canvas.proofs.PlanLaws.{canvas_of, planned}
use Rattle.perform.specs.Performing.{Settles, Carries, Performs, finish, performed, quietly, drew_on}
use Rattle.perform.specs.declared.Performed.{Performed}

-- none in pick mode, and else so many, is at most so many
unless_few : {hits most : ℕ} (picking : Bool) → hits ≤ most → cond picking 0 hits ≤ most
unless_few true h = omega arith
unless_few false h = h

module _ (g : Geometry) (r : Row) (p : Pane) (next : ℕ) (c : Command) (screen store : List ℕ) where
  performed_as : (e : Effect) → effect_of g r p (pixels (pane_surface g r) screen) store next c ≡ e
      → performed g r p next c screen store ≡ carried g r (plan_of g r p store next e) screen
  unfolding performed
  performed_as e k = ap (λ (z : Effect). carried g r (plan_of g r p store next z) screen) k

  -- a command that changes the record alone
  pub performs_record : (q q' : Pane) {a : Performed} → effect_of g r p (pixels (pane_surface g r) screen) store next c ≡ becomes q'
      → Settles r p next c q → a ≡ quietly q → Performs g r p next c screen store a screen store
  unfolding plan_of changes
  performs_record q q' k h e =
      subst (λ (z : Performed). Performs g r p next c screen store z screen store) (sym e)
      (record {
        leaves =
            ap (λ (z : Pane). finish 1 0 z screen store) (h.is g (pixels (pane_surface g r) screen) store q' k)
            ∙ sym (performed_as (becomes q') k);
        few = omega arith;
      })

  -- a drawing: its dots painted, with its position and trap flag in the record
  pub performs_drawing : (w : Drawing) (d : Drawn) (screen' store' : List ℕ) {a : Performed} → Landing g r p.bitmap p.clip p.scissor
      → no_bitmap p.bitmap ≡ false
      → effect_of g r p (pixels (pane_surface g r) screen) store next c ≡ draws w → Carries g r p c screen store d screen' store' → a ≡ drew_on p next d
      → Performs g r p next c screen store a screen' store'
  unfolding canvas_of
  performs_drawing w d screen' store' lands active k h e =
      let drawn = h.drew next w k in
      subst (λ (z : Performed). Performs g r p next c screen store z screen' store') (sym e)
      (record {
        leaves =
            ap₂ (λ (z : Point) (b : Bool).
            finish 1 (cond p.flags.picking 0 d.hits) (drew_pane p next (record { dots = w.dots; position = z; trap = b }) d.hits) screen' store')
            drawn.position drawn.trap
            ∙ ap (λ (z : Canvas). finish 1 (cond p.flags.picking 0 z.hits) (drew_pane p next w z.hits) z.screen z.store) drawn.dots
            ∙ sym (planned g r p w screen store active lands next) ∙ sym (performed_as (draws w) k);
        few = unless_few p.flags.picking h.few;
      })
