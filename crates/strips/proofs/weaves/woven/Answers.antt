-- `strips::weaves::woven` meets its contract: the strips before the loop's place are woven.
use mathlib.Core.Path.{◌≡◌}
use borrow.Author.Rules.{rules}
use native.Mathlib.Omega.{arith}
use Rattle.strips.proofs.WeaveLaws.{woven_is}
use Rattle.strips.proofs.weaves.woven.Goals as goal

pub returns : goal.returns
returns c =
    let a = c.args in
    let e : c.loop-t.t ≡ 16 = omega arith in
    woven_is a.pen c.fore_of-fore.result c.back_of-back.result a.pattern a.bits c.per_of.result _
    c.loop-t.strips c.fore_of-fore.ensures c.back_of-back.ensures c.loop-t.invariant.1 (rw e at c.loop-t.invariant.0) c.per_of.ensures
    (λ e. c.is_bare.ensures.0 (search rules))
