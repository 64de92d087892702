-- `strips::patterns::spread8` meets its contract: antt computes it at each eight bits.
use mathlib.Core.Path.{refl}
use Prim.Native.Nat.{ℕ, ◌+◌, ◌*◌, ◌/◌, ◌<◌}
use native.Mathlib.Omega.{arith}
use lib.Bits.{bit_and}
use Rattle.model.specs.Words.{bit, num}
use Rattle.strips.specs.Strips.{Spread}
use Rattle.strips.proofs.SpreadLaws.{spread_is}
use Rattle.strips.proofs.patterns.spread8.Goals as goal

-- what the code computes
abbrev picked : ℕ → ℕ
picked x = bit_and (x * 0x0101010101010101) 0x0201080420108040

abbrev code : ℕ → ℕ
code x = bit_and ((picked x + 0x7F7F7F7F7F7F7F7F) / 128) 0x0101010101010101 * 255

is : (x : ℕ) → x < 256 → Spread 8 x (code x)
unfolding bit num
is = spread_is 8 (λ x. code x) refl

pub returns : goal.returns
returns c = is c.args.pattern (omega arith)
