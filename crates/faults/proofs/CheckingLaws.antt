-- What is asked before a fault is looked for gives the checks what they need.
use mathlib.Core.Path.{◌≡◌, subst}
use mathlib.Core.Bool.{Bool}
use mathlib.Core.List.{List}
use Prim.Native.Nat.{ℕ}
use lib.ListN.{length}
use Rattle.model.specs.declared.Geometry.{Geometry}
use Rattle.model.specs.declared.Row.{Row}
use Rattle.model.specs.declared.Context.{Context}
use Rattle.model.specs.declared.Command.{Command}
use Rattle.model.specs.declared.Command.TheVariants as command
use Rattle.model.specs.Commands.{Addressed, string_at}
use Rattle.bitmaps.specs.Areas.{Active}
use Rattle.fault_text.specs.Reading.{StringAddressed}
use Rattle.faults.specs.Checking.{Checkable}

-- the active bitmap
pub checkable_active : {g : Geometry} {r : Row} {x : Context} {n : ℕ} → Checkable g r x n → Active g r x.bitmap
checkable_active s = record { screen = s.screen; store = _; placed = s.placed; rule = s.rule }

-- .. and the string of a CHAR
pub string_addressed : {g : Geometry} {r : Row} {x : Context} {store : List ℕ} {a n : ℕ} {transparent : Bool} {c : Command}
    → c ≡ command.Char a n transparent → Checkable g r x (length store) → Addressed c → StringAddressed r store x.font a
string_addressed told s h =
    record { long = s.placed.part; base = s.font; small = subst Addressed told h _ string_at }
