-- The sixteen operations (003, 2.10.14): the code's four bits are the truth table.
use Rattle.std.specs.Prelude.{ℕ, Bool, true, false, cond}
use Rattle.model.specs.Words.{bit}

-- "The truth table of the function with the FCode ABCD": A for destination 0 and source 0, B for 0 and 1, C
-- for 1 and 0, D for 1 and 1; the bit of the code, by source and then destination
abbrev pub entry : Bool → Bool → ℕ
entry false false = 3
entry true false = 2
entry false true = 1
entry true true = 0

-- the operation of a source bit and an old bit
abbrev pub op_bit : ℕ → Bool → Bool → Bool
op_bit code s d = bit code (entry s d)

-- 01, "Each bit whose mask is 1 becomes the operation of source and old bit": by code, mask bit, source bit,
-- old bit
abbrev pub new_bit : ℕ → Bool → Bool → Bool → Bool
new_bit code m s d = cond m (op_bit code s d) d
