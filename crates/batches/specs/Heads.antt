-- The commands that a batch has: what their first words tell, and what each moves.
use Rattle.std.specs.Prelude.{◌≡◌, false, List, ℕ, ◌+◌, ◌*◌, ◌≤◌, length, Option, Some, None, IfSome}
use Rattle.model.specs.Coordinates.{coord, moved, negative}
use Rattle.model.specs.Commands.{known, opcode_of, command_of, decode}
use Rattle.model.specs.declared.Opcode.{Opcode}
use Rattle.model.specs.declared.Opcode.TheVariants as opcode
use Rattle.model.specs.declared.Command.{Command}
use Rattle.model.specs.declared.Command.TheVariants as command
use Rattle.model.specs.declared.Decoded.TheVariants.{Do}
use Rattle.model.specs.declared.Point.{Point}
use Rattle.batches.specs.declared.heads.Head.{Head}
use Rattle.batches.specs.declared.heads.Head.TheVariants as head
use Rattle.batches.specs.declared.heads.Move.{Move}

-- the command that a head tells
abbrev pub command_in : Head → Command
command_in (head.Line dx dy) = command.Line dx dy
command_in (head.Circle radius) = command.Circle radius
command_in (head.AbsMov x y) = command.AbsMov x y
command_in (head.RelMov dx dy) = command.RelMov dx dy
command_in (head.Link address) = command.Link address
command_in head.Nop = command.Nop

-- .. its opcode
abbrev pub opcode_in : Head → Opcode
opcode_in (head.Line dx dy) = opcode.Line
opcode_in (head.Circle radius) = opcode.Circle
opcode_in (head.AbsMov x y) = opcode.AbsMov
opcode_in (head.RelMov dx dy) = opcode.RelMov
opcode_in (head.Link address) = opcode.Link
opcode_in head.Nop = opcode.Nop

-- .. and how many parameter words it has
abbrev pub words_in : Head → ℕ
words_in (head.Circle radius) = 1
words_in head.Nop = 0
words_in h = 2

-- "A negative radius is fault 30" (02, A.1): a head's radius is not negative
abbrev pub Faultless : Head → Type 0
Faultless (head.Circle radius) = negative (coord radius) ≡ false
Faultless h = Unit {0}

-- an opcode and the two words after it, as a head tells them: the opcode's entry in the table (54 and 55 hex are both
-- LINE), and the command that the words make. No head tells nothing
pub record Naming (op a b : ℕ) (h : Head) : Type 0 where
  pub entry : opcode_of op ≡ known (opcode_in h) (words_in h)
  pub same : (w : ℕ → ℕ) → a ≡ w 0 → b ≡ w 1 → command_of (opcode_in h) w ≡ command_in h
  pub radius : Faultless h

abbrev pub OpcodeFor : ℕ → ℕ → ℕ → Option Head → Type 0
OpcodeFor op a b told = IfSome told (Naming op a b)

-- a head's command stands at an address of a store (01, "One command"), and three words can be read there
pub record Standing (s : List ℕ) (at : ℕ) (h : Head) : Type 0 where
  pub fetched : decode (length s) s at ≡ Do (command_in h) (at + 2 + 2 * words_in h)
  pub inside : at + 6 ≤ length s
  pub radius : Faultless h

-- what a head tells of an address: no head tells nothing
abbrev pub HeadAt : List ℕ → ℕ → Option Head → Type 0
HeadAt s at told = IfSome told (Standing s at)

abbrev pub moved_to : ℕ → Point → Move
moved_to pointer position = record { pointer = pointer; position = position }

-- where a command leaves the pointer and the position, by its head. "LINK sets the pointer", of the others "the pointer
-- goes on"; "The position wraps at 16 bits". That model's effect is this is `head_stepped`
abbrev pub moved_by : ℕ → Point → Head → Move
moved_by pointer from (head.Line dx dy) = moved_to (pointer + 6) (moved from (coord dx) (coord dy))
moved_by pointer from (head.Circle radius) = moved_to (pointer + 4) from
moved_by pointer from (head.AbsMov x y) = moved_to (pointer + 6) (record { x = x; y = y })
moved_by pointer from (head.RelMov dx dy) = moved_to (pointer + 6) (moved from (coord dx) (coord dy))
moved_by pointer from (head.Link address) = moved_to address from
moved_by pointer from head.Nop = moved_to (pointer + 2) from

-- the same of ABS_MOV, REL_MOV, LINK and NOP alone, by the head of a command; no other only moves
abbrev pub only_moved_by : ℕ → Point → Option Head → Option Move
only_moved_by pointer from None = None
only_moved_by pointer from (Some (head.Line dx dy)) = None
only_moved_by pointer from (Some (head.Circle radius)) = None
only_moved_by pointer from (Some (head.AbsMov x y)) = Some (moved_to (pointer + 6) (record { x = x; y = y }))
only_moved_by pointer from (Some (head.RelMov dx dy)) = Some (moved_to (pointer + 6) (moved from (coord dx) (coord dy)))
only_moved_by pointer from (Some (head.Link address)) = Some (moved_to address from)
only_moved_by pointer from (Some head.Nop) = Some (moved_to (pointer + 2) from)
