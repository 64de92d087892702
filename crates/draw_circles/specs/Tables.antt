-- The stamps that a circle is drawn with.
use Rattle.std.specs.Prelude.{ℕ, ◌<◌, ◌≡◌, true, false, List, length}
use Rattle.canvas.specs.declared.Target.{Target}
use Rattle.stamps.specs.Stamps.{kept_at, flipped_at, StampsOf}

-- stamps that change nothing under a pattern's 1
pub record Blank (stamps : List ℕ) : Type 0 where
  pub kept : (o : ℕ) → o < 16 → kept_at stamps 1 o ≡ 255
  pub flipped : (o : ℕ) → o < 16 → flipped_at stamps 1 o ≡ 0

-- the stamps of a target: "In pick mode no pixel changes"
pub record StampsFor (t : Target) (stamps : List ℕ) : Type 0 where
  pub length : length stamps ≡ 64
  pub drawing : t.picking ≡ false → StampsOf t.pen t.area.surface.bits stamps
  pub picking : t.picking ≡ true → Blank stamps
