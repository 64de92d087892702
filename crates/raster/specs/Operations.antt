-- The table of sixteen operations, and bytes combined bit by bit.
use Rattle.std.specs.Prelude.{ℕ, ◌+◌, Bool, true, false, cond}
use Rattle.model.specs.Words.{bit, num}
use Rattle.model.specs.Operations.{op_bit}
pub use Rattle.raster.specs.declared.operations.Truth.{Truth}

-- a bit over a whole byte
abbrev pub spread : Bool → ℕ
spread true = 255
spread false = 0

-- what an operation makes of a source bit and an old bit, over a whole byte
abbrev entry : ℕ → Bool → Bool → ℕ
entry code source old = spread (op_bit code source old)

-- the truth table of a code, A B C D
unfoldable pub truth_of : ℕ → Truth
truth_of code = (entry code false false, entry code true false, entry code false true, entry code true true)

-- the byte that has y's bit where m's is 1, else x's
unfoldable pub muxed : ℕ → ℕ → ℕ → ℕ
muxed m x y = num 8 (λ i. cond (bit m i) (bit y i) (bit x i))

-- a truth table's entry for each bit of a source byte and of an old byte
unfoldable pub chosen : Truth → ℕ → ℕ → ℕ
chosen t s d = muxed d (muxed s t.0 t.1) (muxed s t.2 t.3)

-- the b bits of x from k on, as a number
unfoldable pub bit_field : ℕ → ℕ → ℕ → ℕ
bit_field x k b = num b (λ i. bit x (k + i))
