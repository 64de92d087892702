-- `faults::may_fault` meets its contract: the commands for which it answers no have 0 for their fault.
use mathlib.Core.Path.{◌≡◌, refl}
use mathlib.Core.List.{List, [], ◌∷◌}
use Prim.Native.Nat.{ℕ}
use denote.Enum.Declared.{tag_of}
use types.Run.{OneOf, miss}
use Rattle.model.specs.Faults.{fault_of}
use Rattle.model.specs.declared.Geometry.{Geometry}
use Rattle.model.specs.declared.Row.{Row}
use Rattle.model.specs.declared.Context.{Context}
use Rattle.model.specs.declared.Command.{Command}
use Rattle.model.specs.declared.Command.TheVariants as command
use Rattle.model.specs.contracts.Command.{the_type}
use Rattle.faults.proofs.may_fault.Goals as goal

abbrev faultless : List ℕ
faultless = 0 ∷ 1 ∷ 2 ∷ 7 ∷ 8 ∷ 9 ∷ 10 ∷ 12 ∷ 13 ∷ 14 ∷ 15 ∷ []

module _ (g : Geometry) (r : Row) (x : Context) (store : List ℕ) where
  none : (c : Command) → OneOf faultless (tag_of the_type c) → fault_of g r x store c ≡ 0
  unfolding fault_of
  none (command.Link a) h = refl
  none command.Nop h = refl
  none (command.DefTexture a b) h = refl
  none (command.DefCharSet a b) h = absurd (miss faultless 3 tt h)
  none (command.Call a) h = absurd (miss faultless 4 tt h)
  none command.Return h = absurd (miss faultless 5 tt h)
  none (command.DefBitmap a b d e) h = absurd (miss faultless 6 tt h)
  none (command.DefColors a b) h = refl
  none (command.DefLogicalOp a b) h = refl
  none command.EnterPick h = refl
  none command.ExitPick h = refl
  none (command.DefClipRect a b d e) h = absurd (miss faultless 11 tt h)
  none (command.DefSpace a) h = refl
  none (command.DefCharOrient a) h = refl
  none (command.AbsMov a b) h = refl
  none (command.RelMov a b) h = refl
  none (command.Point a b) h = absurd (miss faultless 16 tt h)
  none (command.Line a b) h = absurd (miss faultless 17 tt h)
  none (command.Rect a b) h = absurd (miss faultless 18 tt h)
  none (command.BitBlt a) h = absurd (miss faultless 19 tt h)
  none (command.Polyline a b) h = absurd (miss faultless 20 tt h)
  none (command.Circle a) h = absurd (miss faultless 21 tt h)
  none (command.Char a b d) h = absurd (miss faultless 22 tt h)
  none (command.BitBltM a b d e) h = absurd (miss faultless 23 tt h)
  none (command.ScanLines a b) h = absurd (miss faultless 24 tt h)

pub returns-in-Link : goal.returns-in-Link
returns-in-Link c e g r x store = none g r x store c.args.c c.in-Link.in-Link-own.keys1
