-- `strips::patterns::spread4` meets its contract: antt computes it at each eight bits.
use mathlib.Core.Path.{refl}
use Prim.Native.Nat.{ℕ, ◌*◌, ◌/◌, ◌%◌, ◌<◌}
use native.Mathlib.Omega.{arith}
use lib.Bits.{bit_and, bit_or}
use Rattle.model.specs.Words.{bit, num}
use Rattle.strips.specs.Strips.{Spread}
use Rattle.strips.proofs.SpreadLaws.{spread_is}
use Rattle.strips.proofs.patterns.spread4.Goals as goal

-- what the code computes
abbrev apart : ℕ → ℕ
apart x = bit_or (x / 16) (x % 16 * 65536 % 18446744073709551616)

abbrev part : ℕ → ℕ → ℕ → ℕ
part v k m = bit_and (v * k % 18446744073709551616) m

abbrev four : ℕ → ℕ
four v = bit_or (bit_or (bit_and v 0x10001) (part v 8 0x100010)) (bit_or (part v 64 0x1000100) (part v 512 0x10001000))

abbrev code : ℕ → ℕ
code x = four (apart x) * 15

is : (x : ℕ) → x < 256 → Spread 4 x (code x)
unfolding bit num
is = spread_is 4 (λ x. code x) refl

pub returns : goal.returns
returns c = is c.args.pattern (omega arith)
