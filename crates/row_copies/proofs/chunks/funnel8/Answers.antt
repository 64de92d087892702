-- `funnel8` meets its contract: each word is the funnel of its two.
use Rattle.std.proofs.Common.{rules}
use Rattle.row_copies.proofs.chunks.funnel8.Goals as goal

pub returns : goal.returns
returns c = record { words = λ i h. let w = c.from_fn.ensures.items.at i 0 h in search rules }
