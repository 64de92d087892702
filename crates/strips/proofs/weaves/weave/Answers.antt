-- `strips::weaves::weave` meets its contract: a rotated pattern over two inks, put by eight bytes.
use Rattle.strips.proofs.WeaveLaws.{wove_is}
use Rattle.strips.proofs.weaves.weave.Goals as goal

pub returns : goal.returns
returns c =
    let a = c.args in
    wove_is a.fore a.back a.pattern a.bits a.t c.rotate_left-turned.result c.over_first-first.result c.over_last-last.result
    c.rotate_left-turned.ensures c.over_first-first.ensures c.over_last-last.ensures
    c.under.result c.under-2.result c.under-3.result c.under-4.result _ _ _ _ _
    c.put.ensures c.put-2.ensures c.put-3.ensures c.put-4.ensures
    c.under.ensures c.under-2.ensures c.under-3.ensures c.under-4.ensures
