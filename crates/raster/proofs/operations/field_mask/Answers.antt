-- `field_mask` meets its contract: antt computes it at each k and b. Assumes nothing.
use mathlib.Core.Path.{refl}
use Prim.Native.Nat.{ℕ, ◌-◌, ◌*◌, ◌%◌, ◌^◌}
use native.Mathlib.Omega.{arith}
use Rattle.model.specs.Words.{bit, num, within}
use Rattle.raster.proofs.Table.{tabulate, each}
use Rattle.raster.proofs.operations.field_mask.Goals as goal

-- what the code computes
shifted : ℕ → ℕ → ℕ
shifted k b = ((1 * 2 ^ b % 4294967296) - 1) * 2 ^ k % 4294967296 % 256

pub returns : goal.returns
unfolding bit num shifted
returns c =
    each 9 (shifted c.args.k) (λ b. num 8 (within c.args.k b))
    (each 9 (λ k. tabulate 9 (shifted k)) (λ k. tabulate 9 (λ b. num 8 (within k b))) refl c.args.k (omega arith))
    c.args.b (omega arith)
