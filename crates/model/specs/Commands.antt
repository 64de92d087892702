-- What stands at the pointer (01, "One command"; opcodes, word order and bit places 003, 2.10.1 to 2.10.33).
-- "So a decoded command is either a command with its words or a fault."
use Rattle.std.specs.Prelude.{ℕ, ◌+◌, ◌*◌, ◌/◌, ◌%◌, ◌<◌, List, Bool, cond, ◌&&◌, ◌||◌, ltb, leb, eqb, Some, None}
use Rattle.std.specs.declared.option.Option.{Option}
use Rattle.model.specs.declared.Fault.TheVariants as fault
use Rattle.model.specs.Words.{word_at, address, address_end}
pub use Rattle.model.specs.declared.Opcode.{Opcode}
use Rattle.model.specs.declared.Opcode.TheVariants as opcode
pub use Rattle.model.specs.declared.OpcodeEntry.{OpcodeEntry}
pub use Rattle.model.specs.declared.Block.{Block}
pub use Rattle.model.specs.declared.Command.{Command}
use Rattle.model.specs.declared.Command.TheVariants as command
pub use Rattle.model.specs.declared.Decoded.{Decoded}
use Rattle.model.specs.declared.Decoded.TheVariants.{Do, End, Fault}

-- op is one of the opcodes a to e
abbrev pub from : ℕ → ℕ → ℕ → Bool
from a e op = leb a op && leb op e

-- a known opcode, with the number of its parameter words
abbrev pub known : Opcode → ℕ → Option OpcodeEntry
known op n = Some (record { opcode = op; words = n })

-- the opcodes of 003 that are built, each with its number of parameter words; "Every other opcode is
-- unknown". 06, 0A and A6, A8 are opaque or word mode, 07, 0B and A7, A9 transparent or byte mode. CIRCLE
-- "joins the commands" (02, A.1)
unfoldable pub opcode_of : ℕ → Option OpcodeEntry
opcode_of op =
    cond (eqb op 0x02) (known opcode.Link 2)
    (cond (eqb op 0x03) (known opcode.Nop 0)
    (cond (from 0x06 0x07 op) (known (opcode.DefTexture (eqb op 0x07)) 1)
    (cond (from 0x0A 0x0B op) (known (opcode.DefCharSet (eqb op 0x0B)) 2)
    (cond (eqb op 0x0F) (known opcode.Call 2)
    (cond (eqb op 0x17) (known opcode.Return 0)
    (cond (eqb op 0x1A) (known opcode.DefBitmap 5)
    (cond (eqb op 0x3D) (known opcode.DefColors 2)
    (cond (eqb op 0x41) (known opcode.DefLogicalOp 2)
    (cond (eqb op 0x44) (known opcode.EnterPick 0)
    (cond (eqb op 0x45) (known opcode.ExitPick 0)
    (cond (eqb op 0x46) (known opcode.DefClipRect 4)
    (cond (eqb op 0x4D) (known opcode.DefSpace 1)
    (cond (eqb op 0x4E) (known opcode.DefCharOrient 1)
    (cond (eqb op 0x4F) (known opcode.AbsMov 2)
    (cond (eqb op 0x52) (known opcode.RelMov 2)
    (cond (eqb op 0x53) (known opcode.Point 2)
    (cond (from 0x54 0x55 op) (known opcode.Line 2)
    (cond (eqb op 0x58) (known opcode.Rect 2)
    (cond (eqb op 0x64) (known opcode.BitBlt 4)
    (cond (eqb op 0x74) (known opcode.Polyline 3)
    (cond (eqb op 0x8E) (known opcode.Circle 1)
    (cond (from 0xA6 0xA9 op) (known (opcode.Char (eqb (op % 2) 1)) 3)
    (cond (eqb op 0xAE) (known opcode.BitBltM 8)
    (cond (eqb op 0xBA) (known opcode.ScanLines 3)
    None))))))))))))))))))))))))

-- parameter word i, from 0, of the command at an address
abbrev pub parameter : List ℕ → ℕ → ℕ → ℕ
parameter s at i = word_at s (at + 2 + 2 * i)

-- a copy's source rectangle, by its words
abbrev pub block_of : ℕ → ℕ → ℕ → ℕ → Block
block_of x y dx dy = record { x = x; y = y; dx = dx; dy = dy }

-- the command with its words, in the order that 003 gives them; a low address word comes before its high one
unfoldable pub command_of : Opcode → (ℕ → ℕ) → Command
command_of opcode.Link w = command.Link (address (w 0) (w 1))
command_of opcode.Nop w = command.Nop
command_of (opcode.DefTexture t) w = command.DefTexture (w 0) t
command_of (opcode.DefCharSet t) w = command.DefCharSet (address (w 0) (w 1)) t
command_of opcode.Call w = command.Call (address (w 0) (w 1))
command_of opcode.Return w = command.Return
command_of opcode.DefBitmap w = command.DefBitmap (address (w 0) (w 1)) (w 2) (w 3) (w 4)
command_of opcode.DefColors w = command.DefColors (w 0) (w 1)
command_of opcode.DefLogicalOp w = command.DefLogicalOp (w 0) (w 1)
command_of opcode.EnterPick w = command.EnterPick
command_of opcode.ExitPick w = command.ExitPick
command_of opcode.DefClipRect w = command.DefClipRect (w 0) (w 1) (w 2) (w 3)
command_of opcode.DefSpace w = command.DefSpace (w 0)
command_of opcode.DefCharOrient w = command.DefCharOrient (w 0)
command_of opcode.AbsMov w = command.AbsMov (w 0) (w 1)
command_of opcode.RelMov w = command.RelMov (w 0) (w 1)
command_of opcode.Point w = command.Point (w 0) (w 1)
command_of opcode.Line w = command.Line (w 0) (w 1)
command_of opcode.Rect w = command.Rect (w 0) (w 1)
command_of opcode.BitBlt w = command.BitBlt (block_of (w 0) (w 1) (w 2) (w 3))
command_of opcode.Polyline w = command.Polyline (address (w 0) (w 1)) (w 2)
command_of opcode.Circle w = command.Circle (w 0)
command_of (opcode.Char t) w = command.Char (address (w 0) (w 1)) (w 2) t
command_of opcode.BitBltM w = command.BitBltM (address (w 0) (w 1)) (w 2) (w 3) (block_of (w 4) (w 5) (w 6) (w 7))
command_of opcode.ScanLines w = command.ScanLines (address (w 0) (w 1)) (w 2)

-- a is the address that a command holds; the commands left out hold none
pub data AddressIn : Command → ℕ → Type 0 where
  link_to : {a : ℕ} → AddressIn (command.Link a) a
  call_to : {a : ℕ} → AddressIn (command.Call a) a
  bitmap_at : {a xmax ymax b : ℕ} → AddressIn (command.DefBitmap a xmax ymax b) a
  font_at : {a : ℕ} {bytes : Bool} → AddressIn (command.DefCharSet a bytes) a
  pairs_at : {a n : ℕ} → AddressIn (command.Polyline a n) a
  triples_at : {a n : ℕ} → AddressIn (command.ScanLines a n) a
  source_at : {a xmax ymax : ℕ} {b : Block} → AddressIn (command.BitBltM a xmax ymax b) a
  string_at : {a n : ℕ} {transparent : Bool} → AddressIn (command.Char a n transparent) a

-- "Addresses have 22 bits"
abbrev pub Addressed : Command → Type 0
Addressed c = (a : ℕ) → AddressIn c a → a < address_end

-- "An unknown opcode gives 20. Parameter words outside the store give 21"
unfoldable pub fetch : ℕ → List ℕ → ℕ → Option OpcodeEntry → Decoded
fetch len s at None = Fault fault.Opcode
fetch len s at (Some e) =
    cond (ltb len (at + 2 + 2 * e.words)) (Fault fault.Fetch)
    (Do (command_of e.opcode (parameter s at)) (at + 2 + 2 * e.words))

-- "A pointer that is odd or whose word is outside the store gives fault 21. Bit 0 (GECL) set, or HALT, makes
-- status 2" (HALT is any word with bit 0 set); by the store's length and bytes, and the pointer
unfoldable pub decode : ℕ → List ℕ → ℕ → Decoded
decode len s at =
    cond (eqb (at % 2) 1 || ltb len (at + 2)) (Fault fault.Fetch)
    (cond (eqb (word_at s at % 2) 1) End
    (fetch len s at (opcode_of (word_at s at / 256))))
