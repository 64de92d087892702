-- Which commands draw, by their tags, which are those of the code's enum: a drawing command has a drawing for its effect and needs an active
-- bitmap, any other command another record.
use mathlib.Core.Path.{◌≡◌, refl}
use mathlib.Core.Bool.{false}
use mathlib.Core.List.{List, [], ◌∷◌}
use Prim.Native.Nat.{ℕ}
use native.Mathlib.Omega.{arith}
use denote.Enum.Declared.{tag_of}
use types.Run.{OneOf, miss}
use Rattle.model.specs.Numbers.{fault_no_bitmap}
use Rattle.model.specs.declared.Geometry.{Geometry}
use Rattle.model.specs.declared.Row.{Row}
use Rattle.model.specs.declared.Bitmap.{Bitmap}
use Rattle.model.specs.declared.Pane.{Pane}
use Rattle.model.specs.declared.Command.{Command}
use Rattle.model.specs.declared.Command.TheVariants as command
use Rattle.model.specs.Dots.{Drawing}
use Rattle.model.specs.Effects.{Effect, becomes, draws, effect_of}
use Rattle.model.specs.Faults.{no_bitmap, draw_fault, context_of, fault_of}
use Rattle.model.specs.contracts.Command.{the_type}
use Rattle.model.proofs.Decisions.{cond_none}

abbrev pub drawing_tags : List ℕ
drawing_tags = 16 ∷ 17 ∷ 18 ∷ 19 ∷ 20 ∷ 21 ∷ 22 ∷ 23 ∷ 24 ∷ []

abbrev pub record_tags : List ℕ
record_tags = 0 ∷ 1 ∷ 2 ∷ 3 ∷ 4 ∷ 5 ∷ 6 ∷ 7 ∷ 8 ∷ 9 ∷ 10 ∷ 11 ∷ 12 ∷ 13 ∷ 14 ∷ 15 ∷ []

-- "Drawing commands: 23", and then the others
pub draw_fault_none : (active : Bitmap) (rest : ℕ) → draw_fault active rest ≡ 0 → (no_bitmap active ≡ false) × (rest ≡ 0)
draw_fault_none active rest e = cond_none (no_bitmap active) fault_no_bitmap rest tt e

-- a command whose effect is a drawing
pub record Draws (g : Geometry) (r : Row) (p : Pane) (pixel_of : ℕ → ℕ → ℕ) (store : List ℕ) (next : ℕ) (c : Command) : Type 0 where
  pub drawing : Drawing
  pub is : effect_of g r p pixel_of store next c ≡ draws drawing
  pub active : fault_of g r (context_of p) store c ≡ 0 → no_bitmap p.bitmap ≡ false

-- a command whose effect is another record
pub record Changes (g : Geometry) (r : Row) (p : Pane) (pixel_of : ℕ → ℕ → ℕ) (store : List ℕ) (next : ℕ) (c : Command) : Type 0 where
  pub becoming : Pane
  pub is : effect_of g r p pixel_of store next c ≡ becomes becoming

module _ (g : Geometry) (r : Row) (p : Pane) (pixel_of : ℕ → ℕ → ℕ) (store : List ℕ) (next : ℕ) where
  pub drawing_draws : (c : Command) → OneOf drawing_tags (tag_of the_type c) → Draws g r p pixel_of store next c
  unfolding effect_of fault_of
  drawing_draws (command.Link a) h = absurd (miss drawing_tags 0 tt h)
  drawing_draws command.Nop h = absurd (miss drawing_tags 1 tt h)
  drawing_draws (command.DefTexture a b) h = absurd (miss drawing_tags 2 tt h)
  drawing_draws (command.DefCharSet a b) h = absurd (miss drawing_tags 3 tt h)
  drawing_draws (command.Call a) h = absurd (miss drawing_tags 4 tt h)
  drawing_draws command.Return h = absurd (miss drawing_tags 5 tt h)
  drawing_draws (command.DefBitmap a b d e) h = absurd (miss drawing_tags 6 tt h)
  drawing_draws (command.DefColors a b) h = absurd (miss drawing_tags 7 tt h)
  drawing_draws (command.DefLogicalOp a b) h = absurd (miss drawing_tags 8 tt h)
  drawing_draws command.EnterPick h = absurd (miss drawing_tags 9 tt h)
  drawing_draws command.ExitPick h = absurd (miss drawing_tags 10 tt h)
  drawing_draws (command.DefClipRect a b d e) h = absurd (miss drawing_tags 11 tt h)
  drawing_draws (command.DefSpace a) h = absurd (miss drawing_tags 12 tt h)
  drawing_draws (command.DefCharOrient a) h = absurd (miss drawing_tags 13 tt h)
  drawing_draws (command.AbsMov a b) h = absurd (miss drawing_tags 14 tt h)
  drawing_draws (command.RelMov a b) h = absurd (miss drawing_tags 15 tt h)
  drawing_draws (command.Point a b) h = record { drawing = _; is = refl; active = λ e. (draw_fault_none p.bitmap _ e).0 }
  drawing_draws (command.Line a b) h = record { drawing = _; is = refl; active = λ e. (draw_fault_none p.bitmap _ e).0 }
  drawing_draws (command.Rect a b) h = record { drawing = _; is = refl; active = λ e. (draw_fault_none p.bitmap _ e).0 }
  drawing_draws (command.BitBlt a) h = record { drawing = _; is = refl; active = λ e. (draw_fault_none p.bitmap _ e).0 }
  drawing_draws (command.Polyline a b) h = record { drawing = _; is = refl; active = λ e. (draw_fault_none p.bitmap _ e).0 }
  drawing_draws (command.Circle a) h = record { drawing = _; is = refl; active = λ e. (draw_fault_none p.bitmap _ e).0 }
  drawing_draws (command.Char a b d) h = record { drawing = _; is = refl; active = λ e. (draw_fault_none p.bitmap _ e).0 }
  drawing_draws (command.BitBltM a b d e) h = record { drawing = _; is = refl; active = λ e. (draw_fault_none p.bitmap _ e).0 }
  drawing_draws (command.ScanLines a b) h = record { drawing = _; is = refl; active = λ e. (draw_fault_none p.bitmap _ e).0 }

  pub record_changes : (c : Command) → OneOf record_tags (tag_of the_type c) → Changes g r p pixel_of store next c
  unfolding effect_of
  record_changes (command.Link a) h = record { becoming = _; is = refl }
  record_changes command.Nop h = record { becoming = _; is = refl }
  record_changes (command.DefTexture a b) h = record { becoming = _; is = refl }
  record_changes (command.DefCharSet a b) h = record { becoming = _; is = refl }
  record_changes (command.Call a) h = record { becoming = _; is = refl }
  record_changes command.Return h = record { becoming = _; is = refl }
  record_changes (command.DefBitmap a b d e) h = record { becoming = _; is = refl }
  record_changes (command.DefColors a b) h = record { becoming = _; is = refl }
  record_changes (command.DefLogicalOp a b) h = record { becoming = _; is = refl }
  record_changes command.EnterPick h = record { becoming = _; is = refl }
  record_changes command.ExitPick h = record { becoming = _; is = refl }
  record_changes (command.DefClipRect a b d e) h = record { becoming = _; is = refl }
  record_changes (command.DefSpace a) h = record { becoming = _; is = refl }
  record_changes (command.DefCharOrient a) h = record { becoming = _; is = refl }
  record_changes (command.AbsMov a b) h = record { becoming = _; is = refl }
  record_changes (command.RelMov a b) h = record { becoming = _; is = refl }
  record_changes (command.Point a b) h = absurd (miss record_tags 16 tt h)
  record_changes (command.Line a b) h = absurd (miss record_tags 17 tt h)
  record_changes (command.Rect a b) h = absurd (miss record_tags 18 tt h)
  record_changes (command.BitBlt a) h = absurd (miss record_tags 19 tt h)
  record_changes (command.Polyline a b) h = absurd (miss record_tags 20 tt h)
  record_changes (command.Circle a) h = absurd (miss record_tags 21 tt h)
  record_changes (command.Char a b d) h = absurd (miss record_tags 22 tt h)
  record_changes (command.BitBltM a b d e) h = absurd (miss record_tags 23 tt h)
  record_changes (command.ScanLines a b) h = absurd (miss record_tags 24 tt h)

-- no effect is both
pub either_effect : {A : Type 0} {e : Effect} {q : Pane} {w : Drawing} → e ≡ becomes q → e ≡ draws w → A
either_effect h k = let z : ◌≡◌ {A = ℕ} 0 1 = cc in absurd (let f : ⊥ = omega arith in f)
