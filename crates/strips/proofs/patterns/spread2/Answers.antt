-- `strips::patterns::spread2` meets its contract: antt computes it at each eight bits.
use mathlib.Core.Path.{refl}
use Prim.Native.Nat.{ℕ, ◌*◌, ◌%◌, ◌<◌}
use native.Mathlib.Omega.{arith}
use lib.Bits.{bit_and, bit_or}
use Rattle.model.specs.Words.{bit, num}
use Rattle.strips.specs.Strips.{Spread}
use Rattle.strips.proofs.SpreadLaws.{spread_is}
use Rattle.strips.proofs.patterns.spread2.Goals as goal

-- what the code computes
abbrev twice : ℕ → ℕ → ℕ → ℕ
twice x k m = bit_and (bit_or x (x * k % 18446744073709551616)) m

abbrev code : ℕ → ℕ
code x = twice (twice (twice x 16 0x0F0F) 4 0x3333) 2 0x5555 * 3

is : (x : ℕ) → x < 256 → Spread 2 x (code x)
unfolding bit num
is = spread_is 2 (λ x. code x) refl

pub returns : goal.returns
returns c = is c.args.pattern (omega arith)
