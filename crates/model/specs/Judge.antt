-- The judge (02, A.2): "Page builders want a list judged before it goes to a press." A walk over the run's own
-- definitions: what stands at the pointer, its faults, and the record that it leaves. Nothing is drawn, and no
-- pixel is looked at.
use Rattle.std.specs.Prelude.{ℕ, zero, suc, ◌-◌, List, cond, eqb}
use Rattle.model.specs.Ranges.{or_else}
use Rattle.model.specs.Numbers.{fault_barred, fault_long, fault_number}
use Rattle.model.specs.Bitmaps.{Geometry, Row, pane_address}
use Rattle.model.specs.Record.{Pane}
use Rattle.model.specs.Commands.{Command, Decoded, decode}
use Rattle.model.specs.declared.Command.TheVariants as command
use Rattle.model.specs.declared.Decoded.TheVariants.{Do, End, Fault}
use Rattle.model.specs.Faults.{Context, context_of, fault_of}
use Rattle.model.specs.Effects.{effect_of}
use Rattle.model.specs.Steps.{plan_of}
pub use Rattle.model.specs.Replies.{Verdict, Clean, Found}

-- ## A command

-- "LINK, or a DEF_BITMAP whose address isn't 200000 hex, gets 31"; 0 for every other command
unfoldable pub barred_fault : Command → ℕ
barred_fault (command.Link a) = fault_barred
barred_fault command.Nop = 0
barred_fault (command.DefTexture pattern t) = 0
barred_fault (command.DefCharSet base t) = 0
barred_fault (command.Call a) = 0
barred_fault command.Return = 0
barred_fault (command.DefBitmap a xmax ymax b) = cond (eqb a pane_address) 0 fault_barred
barred_fault (command.DefColors fore back) = 0
barred_fault (command.DefLogicalOp mask code) = 0
barred_fault command.EnterPick = 0
barred_fault command.ExitPick = 0
barred_fault (command.DefClipRect xmin ymin xmax ymax) = 0
barred_fault (command.DefSpace spacing) = 0
barred_fault (command.DefCharOrient orientation) = 0
barred_fault (command.AbsMov x y) = 0
barred_fault (command.RelMov dx dy) = 0
barred_fault (command.Point dx dy) = 0
barred_fault (command.Line dx dy) = 0
barred_fault (command.Rect dx dy) = 0
barred_fault (command.BitBlt b) = 0
barred_fault (command.Polyline a n) = 0
barred_fault (command.Circle radius) = 0
barred_fault (command.Char a n t) = 0
barred_fault (command.BitBltM a xmax ymax b) = 0
barred_fault (command.ScanLines a n) = 0

-- 31, "ahead of that command's own faults other than 21" (which decode gives), and then these; 0 for none
unfoldable pub judged_fault : Geometry → Row → Context → List ℕ → Command → ℕ
judged_fault g r x store c = or_else (barred_fault c) (fault_of g r x store c)

-- the record that a command leaves, by the address after it. "It follows CALL up to eight deep": CALL keeps its
-- return address in the record, and a ninth is its fault 26. What the pane shows decides nothing that a fault
-- depends on, so 0 stands for every pixel
unfoldable pub record_after : Geometry → Row → Pane → List ℕ → ℕ → Command → Pane
record_after g r p store next c = (plan_of g r p store next (effect_of g r p (λ x y. 0) store next c)).pane

-- ## The walk

-- a command that is met, and the walk on from the record that it leaves
unfoldable pub judged_command : Geometry → Row → List ℕ → (Pane → Verdict) → Pane → Command → ℕ → Verdict
judged_command g r store on p c next =
    cond (eqb (judged_fault g r (context_of p) store c) 0) (on (record_after g r p store next c))
    (Found (judged_fault g r (context_of p) store c) p.progress.pointer)

-- what stands at the pointer, where n commands are left to walk
unfoldable pub met : Geometry → Row → List ℕ → ℕ → (Pane → Verdict) → Pane → Decoded → Verdict
met g r store n on p End = Clean n
met g r store n on p (Fault f) = Found (fault_number f) p.progress.pointer
met g r store n on p (Do c next) = judged_command g r store on p c next

-- .. and where none is left: "anything but an end word after 4,096 commands gets 32, ahead of its own faults
-- and of 31"
unfoldable pub met_last : Pane → Decoded → Verdict
met_last p End = Clean 0
met_last p (Fault f) = Found fault_long p.progress.pointer
met_last p (Do c next) = Found fault_long p.progress.pointer

-- "the first that the walk meets, fault or these two, is so named": at most so many commands; clean with the
-- number of those that are left
unfoldable pub list_walk : Geometry → Row → List ℕ → ℕ → Pane → Verdict
list_walk g r store zero p = met_last p (decode r.len store p.progress.pointer)
list_walk g r store (suc n) p =
    met g r store (suc n) (λ q. list_walk g r store n q) p (decode r.len store p.progress.pointer)

-- "It walks at most 4,096 commands."
abbrev pub most_walked : ℕ
most_walked = 4096

-- clean with the number of commands walked, by the number left
abbrev pub tallied : Verdict → Verdict
tallied (Clean n) = Clean (most_walked - n)
tallied (Found f a) = Found f a

-- the verdict on the list that a record has begun
unfoldable pub verdict_of : Geometry → Row → List ℕ → Pane → Verdict
verdict_of g r store p = tallied (list_walk g r store most_walked p)
