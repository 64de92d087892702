-- Laws of the opcode table: the number of words that it gives is the command's own; between the opcodes that are built all are unknown.
use Prim.Native.Nat.{ℕ, ◌+◌, ◌≤◌, ◌<◌}
use native.Mathlib.Omega.{arith}
use mathlib.Core.Path.{◌≡◌, refl, subst}
use mathlib.Core.Bool.{Bool, true, false, ◌||◌}
use lib.Dec.{T, eqb, eqb→eq}
use Rattle.model.specs.Commands.{opcode_of}
use Rattle.std.specs.Prelude.{is_none, Some, None}
use Rattle.std.specs.declared.option.Option.{Option}
use Rattle.model.specs.declared.OpcodeEntry.{OpcodeEntry}
use Rattle.decoder.specs.Counts.{word_count}
use Rattle.decoder.proofs.RangeLaws.{allb, range_allb}

-- ## The number of words

abbrev count_right : Option OpcodeEntry → Bool
count_right None = true
count_right (Some e) = eqb e.words (word_count e.opcode)

pub opcode_of_count : (number : ℕ) (e : OpcodeEntry) → number < 256 → opcode_of number ≡ Some e → e.words ≡ word_count e.opcode
unfolding opcode_of
opcode_of_count number e h q =
    eqb→eq e.words (word_count e.opcode) (subst (λ (s : Option OpcodeEntry). T (count_right s)) q (range_allb (λ (k : ℕ). count_right (opcode_of k)) 0 256 tt number (omega arith)
    (omega arith)))

-- ## Unknown opcodes

unknown : (s : Option OpcodeEntry) → T (is_none s) → s ≡ None
unknown None t = refl
unknown (Some e) t = absurd t

or_right : (a b : Bool) → a ≡ false → T (a || b) → T b
or_right a b e t = rw e at t

-- among n opcodes from a on, one that is none of the listed ones is unknown
pub opcode_of_gap : (listed : ℕ → Bool) (a n : ℕ) → T (allb (λ (k : ℕ). listed k || is_none (opcode_of k)) a n) →
    (k : ℕ) → a ≤ k → k < a + n → listed k ≡ false → opcode_of k ≡ None
opcode_of_gap listed a n t k h l e =
    unknown (opcode_of k)
    (or_right (listed k) (is_none (opcode_of k)) e (range_allb (λ (k : ℕ). listed k || is_none (opcode_of k)) a n t k h l))
