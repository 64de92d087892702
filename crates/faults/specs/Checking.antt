-- What is asked before a command's fault is looked for.
use Rattle.std.specs.Prelude.{◌≡◌, Bool, false, List, ℕ}
use Rattle.model.specs.declared.Geometry.{Geometry}
use Rattle.model.specs.declared.Row.{Row}
use Rattle.model.specs.declared.Context.{Context}
use Rattle.model.specs.declared.Clip.{Clip}
use Rattle.model.specs.declared.Command.{Command}
use Rattle.model.specs.Bitmaps.{rule_broken}
use Rattle.model.specs.Faults.{fault_of}
use Rattle.model.specs.Setup.{font_bad}
use Rattle.bitmaps.specs.Places.{Placed}

-- the clip that DEF_CLIP_RECT names
abbrev pub clip_of : ℕ → ℕ → ℕ → ℕ → Clip
clip_of xmin ymin xmax ymax = record { xmin = xmin; ymin = ymin; xmax = xmax; ymax = ymax }

-- what refusals 6 to 12 leave of a pane and of what its faults depend on, its store having so many bytes, and
-- its screen some number of bytes
pub record Checkable (g : Geometry) (r : Row) (x : Context) (store : ℕ) : Type 0 where
  pub screen : ℕ
  pub placed : Placed g r screen store
  pub rule : rule_broken g r x.bitmap ≡ false
  pub font : font_bad x.font ≡ false

-- where a command may not be faulty it has no fault, whatever it is checked against
abbrev pub MayFault : Command → Bool → Type 0
MayFault c b = b ≡ false → (g : Geometry) (r : Row) (x : Context) (store : List ℕ) → fault_of g r x store c ≡ 0
