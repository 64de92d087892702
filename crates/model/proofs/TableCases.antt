-- The tables of 003: opcodes with their words (2.10.1 to 2.10.33), the sixteen operations (table 2-8), and the ways that path and rotation move
-- the position (01, CHAR).
use mathlib.Core.Path.{◌≡◌, refl}
use mathlib.Core.Bool.{Bool, true, false, not, ◌&&◌, ◌||◌}
use mathlib.Core.List.{List, [], ◌∷◌}
use Prim.Native.Nat.{ℕ, ◌+◌, ◌*◌}
use lib.Dec.{eqb}
use lib.IntN.{ℤ, pos}
use Rattle.model.specs.Ranges.{listed, joined}
use Rattle.model.specs.Coordinates.{coord}
use Rattle.model.specs.Operations.{new_bit}
use Rattle.model.specs.Glyphs.{passed}
use Rattle.std.specs.Prelude.{is_some}
use Rattle.model.specs.Commands.{block_of, Decoded, opcode_of, decode}
use Rattle.model.specs.declared.Command.TheVariants as command
use Rattle.model.specs.declared.Decoded.TheVariants.{Do}
use Rattle.model.specs.declared.Font.TheVariants as font
use Rattle.model.proofs.Computing.{machine}
use Rattle.model.proofs.Listings.{bytes}

-- ## Opcodes

-- an opcode, with what it and eight words behind it decode to
pub record Entry : Type 0 where
  pub op : ℕ
  pub decoded : Decoded

abbrev entry : ℕ → Decoded → Entry
entry op d = record { op = op; decoded = d }

-- the words 1001, FFC2, 0003, 0004 .. 0008 hex: as an address the first two are 21001 hex, since only six bits of an upper word count
abbrev words : List ℕ
words = 0x1001 ∷ 0xFFC2 ∷ 0x0003 ∷ 0x0004 ∷ 0x0005 ∷ 0x0006 ∷ 0x0007 ∷ 0x0008 ∷ []

abbrev pub opcodes : List Entry
opcodes =
    entry 0x02 (Do (command.Link 0x21001) 6)
    ∷ entry 0x03 (Do command.Nop 2)
    ∷ entry 0x06 (Do (command.DefTexture 0x1001 false) 4)
    ∷ entry 0x07 (Do (command.DefTexture 0x1001 true) 4)
    -- word mode, byte mode
    ∷ entry 0x0A (Do (command.DefCharSet 0x21001 false) 6)
    ∷ entry 0x0B (Do (command.DefCharSet 0x21001 true) 6)
    ∷ entry 0x0F (Do (command.Call 0x21001) 6)
    ∷ entry 0x17 (Do command.Return 2)
    -- address, xmax, ymax, bits per pixel
    ∷ entry 0x1A (Do (command.DefBitmap 0x21001 3 4 5) 12)
    -- foreground, background
    ∷ entry 0x3D (Do (command.DefColors 0x1001 0xFFC2) 6)
    -- mask, code
    ∷ entry 0x41 (Do (command.DefLogicalOp 0x1001 0xFFC2) 6)
    ∷ entry 0x44 (Do command.EnterPick 2)
    ∷ entry 0x45 (Do command.ExitPick 2)
    -- xmin, ymin, xmax, ymax
    ∷ entry 0x46 (Do (command.DefClipRect 0x1001 0xFFC2 3 4) 10)
    ∷ entry 0x4D (Do (command.DefSpace 0x1001) 4)
    ∷ entry 0x4E (Do (command.DefCharOrient 0x1001) 4)
    ∷ entry 0x4F (Do (command.AbsMov 0x1001 0xFFC2) 6)
    ∷ entry 0x52 (Do (command.RelMov 0x1001 0xFFC2) 6)
    ∷ entry 0x53 (Do (command.Point 0x1001 0xFFC2) 6)
    ∷ entry 0x54 (Do (command.Line 0x1001 0xFFC2) 6)
    ∷ entry 0x55 (Do (command.Line 0x1001 0xFFC2) 6)
    ∷ entry 0x58 (Do (command.Rect 0x1001 0xFFC2) 6)
    -- source x, y, dx, dy
    ∷ entry 0x64 (Do (command.BitBlt (block_of 0x1001 0xFFC2 3 4)) 10)
    ∷ entry 0x74 (Do (command.Polyline 0x21001 3) 8)
    ∷ entry 0x8E (Do (command.Circle 0x1001) 4)
    -- string, number; opaque, transparent, and both once more
    ∷ entry 0xA6 (Do (command.Char 0x21001 3 false) 8)
    ∷ entry 0xA7 (Do (command.Char 0x21001 3 true) 8)
    ∷ entry 0xA8 (Do (command.Char 0x21001 3 false) 8)
    ∷ entry 0xA9 (Do (command.Char 0x21001 3 true) 8)
    -- address, xmax, ymax; source x, y, dx, dy
    ∷ entry 0xAE (Do (command.BitBltM 0x21001 3 4 (block_of 5 6 7 8)) 18)
    ∷ entry 0xBA (Do (command.ScanLines 0x21001 3) 8)
    ∷ []

-- by the low byte of the first word
abbrev pub decoded_each : ℕ → List Entry → List Decoded
decoded_each low [] = []
decoded_each low (e ∷ es) = decode 18 (bytes ((0x100 * e.op + low) ∷ words)) 0 ∷ decoded_each low es

abbrev pub due_each : List Entry → List Decoded
due_each [] = []
due_each (e ∷ es) = e.decoded ∷ due_each es

pub opcodes_decoded : decoded_each 0 opcodes ≡ due_each opcodes
unfolding machine
opcodes_decoded = refl

-- "Every other opcode is unknown"
abbrev listed_in : ℕ → List Entry → Bool
listed_in op [] = false
listed_in op (e ∷ es) = eqb op e.op || listed_in op es

pub opcodes_all : listed 0 256 (λ op. is_some (opcode_of op)) ≡ listed 0 256 (λ op. listed_in op opcodes)
unfolding machine
opcodes_all = refl

-- ## Operations

abbrev xor : Bool → Bool → Bool
xor s d = (s && not d) || (not s && d)

-- by source and old bit, in the order of the codes 0 to F hex
abbrev operations : List (Bool → Bool → Bool)
operations =
    (λ s d. false)
    ∷ (λ s d. s && d)
    ∷ (λ s d. not s && d)
    ∷ (λ s d. d)
    ∷ (λ s d. s && not d)
    ∷ (λ s d. s)
    ∷ (λ s d. xor s d)
    ∷ (λ s d. s || d)
    ∷ (λ s d. not s && not d)
    ∷ (λ s d. xor (not s) d)
    ∷ (λ s d. not s)
    ∷ (λ s d. not s || d)
    ∷ (λ s d. not d)
    ∷ (λ s d. s || not d)
    ∷ (λ s d. not s || not d)
    ∷ (λ s d. true)
    ∷ []

abbrev tabulated : (Bool → Bool → Bool) → List Bool
tabulated f = f false false ∷ f true false ∷ f false true ∷ f true true ∷ []

abbrev each_tabulated : List (Bool → Bool → Bool) → List (List Bool)
each_tabulated [] = []
each_tabulated (f ∷ fs) = tabulated f ∷ each_tabulated fs

pub operations_all : listed 0 16 (λ code. tabulated (new_bit code true)) ≡ each_tabulated operations
unfolding machine
operations_all = refl

-- under a mask bit of 0 the old bit stays
pub operations_masked : listed 0 16 (λ code. tabulated (new_bit code false)) ≡ listed 0 16 (λ code. tabulated (λ s d. d))
unfolding machine
operations_masked = refl

-- ## Path and rotation

-- x and y after a cell of 3 by 2, spacing 10, drawn at (100,100), by path and rotation
abbrev moved : ℕ → ℕ → List ℤ
moved path rotation =
    let p = passed (record { spacing = 10; path = path; rotation = rotation; font = font.Absent }) 0x0102 (record { x = 100; y = 100 }) in
    coord p.x ∷ coord p.y ∷ []

-- the width where path and rotation agree or are opposite, else the height: by path, and then rotation
pub paths_all :
    joined 0 4 (λ path. listed 0 4 (λ rotation. moved path rotation))
    ≡ (pos 113 ∷ pos 100 ∷ [])
    ∷ (pos 112 ∷ pos 100 ∷ [])
    ∷ (pos 113 ∷ pos 100 ∷ [])
    ∷ (pos 112 ∷ pos 100 ∷ [])
    -- 90: up
    ∷ (pos 100 ∷ pos 88 ∷ [])
    ∷ (pos 100 ∷ pos 87 ∷ [])
    ∷ (pos 100 ∷ pos 88 ∷ [])
    ∷ (pos 100 ∷ pos 87 ∷ [])
    -- 180: left
    ∷ (pos 87 ∷ pos 100 ∷ [])
    ∷ (pos 88 ∷ pos 100 ∷ [])
    ∷ (pos 87 ∷ pos 100 ∷ [])
    ∷ (pos 88 ∷ pos 100 ∷ [])
    -- 270: down
    ∷ (pos 100 ∷ pos 112 ∷ [])
    ∷ (pos 100 ∷ pos 113 ∷ [])
    ∷ (pos 100 ∷ pos 112 ∷ [])
    ∷ (pos 100 ∷ pos 113 ∷ [])
    ∷ []
unfolding machine
paths_all = refl
