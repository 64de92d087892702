-- A good pane record: what refusal 12 leaves, and what every command keeps.
use Rattle.std.specs.Prelude.{◌≡◌, false, ◌≤◌}
use Rattle.model.specs.declared.Geometry.{Geometry}
use Rattle.model.specs.declared.Row.{Row}
use Rattle.model.specs.declared.Progress.{Progress}
use Rattle.model.specs.declared.Text.{Text}
use Rattle.model.specs.declared.Pane.{Pane}
use Rattle.model.specs.Numbers.{status_faulted, status_trapped}
use Rattle.model.specs.Bitmaps.{rule_broken}
use Rattle.model.specs.Faults.{clip_outside}
use Rattle.model.specs.Scissor.{Current}
use Rattle.model.specs.Setup.{trap_bad, font_bad}

pub record GoodProgress (p : Progress) : Type 0 where
  pub status : p.status ≤ status_trapped
  pub least : p.status ≡ status_faulted → 20 ≤ p.fault
  pub most : p.status ≡ status_faulted → p.fault ≤ 30
  pub none : (p.status ≡ status_faulted → ⊥) → p.fault ≡ 0

pub record GoodText (t : Text) : Type 0 where
  pub font : font_bad t.font ≡ false
  pub path : t.path ≤ 3
  pub rotation : t.rotation ≤ 3

pub record Good (g : Geometry) (r : Row) (p : Pane) : Type 0 where
  pub progress : GoodProgress p.progress
  pub trap : trap_bad p.progress.status p.flags ≡ false
  pub rule : rule_broken g r p.bitmap ≡ false
  pub clip : clip_outside p.bitmap p.clip ≡ false
  pub op : p.pen.op ≤ 15
  pub text : GoodText p.text
  pub returns : p.returns.count ≤ 8
  pub scissor : Current r p
