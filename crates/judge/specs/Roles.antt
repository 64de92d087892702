-- What a command is to the judge.
use Rattle.std.specs.Prelude.{cond, eqb, Ok, Err}
use Rattle.std.specs.declared.result.Result.{Result}
use Rattle.model.specs.declared.Command.{Command}
use Rattle.model.specs.declared.Command.TheVariants as command
use Rattle.model.specs.declared.Fault.{Fault}
use Rattle.model.specs.declared.Fault.TheVariants as fault
use Rattle.model.specs.Bitmaps.{pane_address}
use Rattle.model.specs.Effects.{font_of}
use Rattle.judge.specs.declared.Role.{Role}
use Rattle.judge.specs.declared.Role.TheVariants as role

-- LINK and a DEF_BITMAP in the store are barred; CALL and RETURN go to another list; DEF_BITMAP of the pane
-- and DEF_CHAR_SET change what faults depend on; the others change nothing of it
unfoldable pub role_of : Command → Result Role Fault
role_of (command.Link a) = Err fault.Barred
role_of command.Nop = Ok role.Plain
role_of (command.DefTexture pattern t) = Ok role.Plain
role_of (command.DefCharSet base t) = Ok (role.SetsFont (font_of t base))
role_of (command.Call a) = Ok (role.Calls a)
role_of command.Return = Ok role.Returns
role_of (command.DefBitmap a xmax ymax b) =
    cond (eqb a pane_address) (Ok (role.SetsBitmap xmax ymax b)) (Err fault.Barred)
role_of (command.DefColors fore back) = Ok role.Plain
role_of (command.DefLogicalOp mask code) = Ok role.Plain
role_of command.EnterPick = Ok role.Plain
role_of command.ExitPick = Ok role.Plain
role_of (command.DefClipRect xmin ymin xmax ymax) = Ok role.Plain
role_of (command.DefSpace spacing) = Ok role.Plain
role_of (command.DefCharOrient orientation) = Ok role.Plain
role_of (command.AbsMov x y) = Ok role.Plain
role_of (command.RelMov dx dy) = Ok role.Plain
role_of (command.Point dx dy) = Ok role.Plain
role_of (command.Line dx dy) = Ok role.Plain
role_of (command.Rect dx dy) = Ok role.Plain
role_of (command.BitBlt b) = Ok role.Plain
role_of (command.Polyline a n) = Ok role.Plain
role_of (command.Circle radius) = Ok role.Plain
role_of (command.Char a n t) = Ok role.Plain
role_of (command.BitBltM a xmax ymax b) = Ok role.Plain
role_of (command.ScanLines a n) = Ok role.Plain
