-- A coordinate that is not negative is its pattern; of another the numeral stands after a minus.
use Rattle.std.proofs.Common.{arith}
use Rattle.script_numerals.proofs.WroteLaws.{Wrote-value, Wrote-then}
use Rattle.script_numerals.proofs.NumeralLaws.{coordinate_minus}
use Rattle.script_numerals.proofs.coordinate.Goals as goal

-- negative
pub returns : goal.returns
returns c =
    let number = rw c.from-n.ensures at c.decimal.ensures in
    rw (coordinate_minus c.args.pattern (omega arith) (omega arith)) (Wrote-value c.push-comma.ensures (Wrote-then c.push-minus.ensures number))
