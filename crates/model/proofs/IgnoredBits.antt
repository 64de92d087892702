-- Bits that do not count, each set at least once (01, "One command": "Reserved bits are ignored", "Addresses have 22 bits"; "Pixels"; the places of
-- the bits: 003, 2.10.1 to 2.10.33).
use mathlib.Core.Path.{◌≡◌, refl}
use mathlib.Core.Bool.{false}
use mathlib.Core.List.{List, [], ◌∷◌}
use Prim.Native.Nat.{ℕ, ◌+◌, ◌*◌, ◌^◌}
use lib.ListN.{length, replicate}
use Rattle.model.specs.Ranges.{listed}
use Rattle.model.specs.Words.{address}
use Rattle.model.specs.Record.{Pane, fresh}
use Rattle.model.specs.Pixels.{blend}
use Rattle.model.specs.declared.Source.TheVariants.{Colour}
use Rattle.model.specs.Dots.{Drawing}
use Rattle.model.specs.Glyphs.{string}
use Rattle.model.specs.Commands.{Decoded, decode}
use Rattle.model.specs.declared.Decoded.TheVariants.{End}
use Rattle.model.specs.Runs.{runs}
use Rattle.model.specs.Calls.{started}
use Rattle.model.specs.Figures.{masked}
use Rattle.model.proofs.Computing.{machine}
use Rattle.model.proofs.Listings.{bytes}
use Rattle.model.proofs.TableCases.{opcodes, decoded_each, due_each}

-- ## "Bit 0 (GECL) set, or HALT, makes status 2": whatever the other fifteen bits

-- a word at the end of a store
abbrev word : ℕ → Decoded
word w = decode 2 (bytes (w ∷ [])) 0

pub end_words : word 0x0001 ∷ word 0x0003 ∷ word 0x00FF ∷ word 0x0301 ∷ word 0x1A01 ∷ word 0xFF03 ∷ word 0xFFFF ∷ [] ≡ replicate 7 End
unfolding machine
end_words = refl

-- each of the others alone
pub end_word_bits : listed 1 15 (λ i. word (2 ^ i + 1)) ≡ replicate 15 End
unfolding machine
end_word_bits = refl

-- ## "Reserved bits are ignored": bits 7 to 1 of every command's first word

pub first_words : decoded_each 0xFE opcodes ≡ due_each opcodes
unfolding machine
first_words = refl

-- each alone
pub first_word_bits : listed 1 7 (λ i. decoded_each (2 ^ i) opcodes) ≡ replicate 7 (due_each opcodes)
unfolding machine
first_word_bits = refl

-- ## "Addresses have 22 bits": the upper ten bits of a high word, each alone; TableCases has every command's with all ten set

pub address_bits : listed 6 10 (λ i. address 0x1234 (2 ^ i + 0x2A)) ≡ replicate 10 0x2A1234
unfolding machine
address_bits = refl

-- ## Bits of DEF_LOGICAL_OP's and DEF_CHAR_ORIENT's words

-- the record of a fresh pane after one command
abbrev after : List ℕ → Pane
after words =
    (runs (record { width = 1; height = 1; depth = 1 })
    (record { left = 0; top = 0; width = 1; height = 1; start = 0; len = 2 * length words })
    1 (started fresh 0) [] (bytes words)).pane

-- "the low four bits of the code count": each of the twelve others alone, and all
pub code_bits : listed 4 12 (λ i. (after (0x4100 ∷ 0xFFFF ∷ (2 ^ i + 9) ∷ [])).pen.op) ≡ replicate 12 9
unfolding machine
code_bits = refl

pub code_all : (after (0x4100 ∷ 0xFFFF ∷ 0xFFF9 ∷ [])).pen.op ≡ 9
unfolding machine
code_all = refl

-- "the path in bits 9 and 8 of its word, the rotation in bits 1 and 0": path 2 and rotation 1 with all others set, and the other way about
pub orientation_path : (after (0x4E00 ∷ 0xFEFD ∷ [])).text.path ∷ (after (0x4E00 ∷ 0xFDFE ∷ [])).text.path ∷ [] ≡ 2 ∷ 1 ∷ []
unfolding machine
orientation_path = refl

pub orientation_rotation : (after (0x4E00 ∷ 0xFEFD ∷ [])).text.rotation ∷ (after (0x4E00 ∷ 0xFDFE ∷ [])).text.rotation ∷ [] ≡ 1 ∷ 2 ∷ []
unfolding machine
orientation_rotation = refl

-- ## A character of 3 by 2: dots, the position after it, trap flag

-- by its descriptor's first word and its two rows
abbrev character : ℕ → ℕ → ℕ → Drawing
character head first second =
    string (masked 0xFFFF) false fresh.text (bytes (head ∷ first ∷ second ∷ [])) (record { x = 0; y = 0 }) (0 ∷ [])

-- "T in bit 15, S in bit 14, height − 1 in bits 11 to 8, width − 1 in bits 3 to 0, the rest ignored": bits 13, 12 and 7 to 4, each alone, and all
pub descriptor_bits :
    character 0x2102 6 1 ∷ character 0x1102 6 1 ∷ character 0x0182 6 1 ∷ character 0x0142 6 1 ∷ character 0x0122 6 1 ∷ character 0x0112 6 1
    ∷ character 0x31F2 6 1 ∷ []
    ≡ replicate 7 (character 0x0102 6 1)
unfolding machine
descriptor_bits = refl

-- "Bit width−1 is leftmost": those above it
pub row_bits : character 0x0102 0xFFFE 0xFFF9 ≡ character 0x0102 6 1
unfolding machine
row_bits = refl

-- ## "Colours and mask are used at the bits where the pixel lies in its word"

-- a pixel of four bits at bit 4 of its word: old 0101, source 1010, mask 0011
pub colour_bits : blend 4 4 (masked 0x0030) (Colour 0xFFAF) 0b0101 ∷ blend 4 4 (masked 0x0030) (Colour 0x00A0) 0b0101 ∷ [] ≡ 0b0110 ∷ 0b0110 ∷ []
unfolding machine
colour_bits = refl

pub mask_bits : blend 4 4 (masked 0xFF3F) (Colour 0xAAAA) 0b0101 ≡ 0b0110
unfolding machine
mask_bits = refl
