-- A pattern's first bit.
use Rattle.std.proofs.Common.{arith}
use Rattle.traces.proofs.PatternLaws.{first_digit}
use Rattle.traces.proofs.walks.U16Dashes.first.Goals as goal

pub returns : goal.returns
returns c = (first_digit c.args.self (omega arith), omega arith)
