-- `truth_of` meets its contract: the table is the list of `truth_of`'s values, packed, which antt computes.
use Rattle.std.specs.Int.{w32, to_le_bytes}
use mathlib.Core.Path.{refl, ap, ◌∙◌}
use mathlib.Core.List.{List}
use Prim.Native.Nat.{ℕ, ◌+◌, ◌*◌}
use lib.ListN.{get_or}
use Rattle.model.specs.Words.{bit}
use Rattle.raster.specs.Operations.{Truth, truth_of}
use Rattle.raster.proofs.Table.{each, get_d_tabulate}
use borrow.Author.Rules.{rules}
use Rattle.raster.proofs.operations.truth_of.Goals as goal

-- four bytes as one word, the first lowest, and back
abbrev packed : ℕ → ℕ
packed code = let t = truth_of code in t.0 + 256 * t.1 + 65536 * t.2 + 16777216 * t.3

abbrev first_four : List ℕ → Truth
first_four bytes = (get_or bytes 0 0, get_or bytes 1 0, get_or bytes 2 0, get_or bytes 3 0)

abbrev unpacked : ℕ → Truth
unpacked w = first_four (to_le_bytes w32 w)

pub returns : goal.returns
unfolding truth_of bit
returns c =
    let code = c.args.code in
    ap first_four c.to_le_bytes.ensures ∙ ap unpacked (get_d_tabulate 16 packed code 0 (search rules))
    ∙ each 16 (λ (k : ℕ). unpacked (packed k)) truth_of refl code (search rules)
