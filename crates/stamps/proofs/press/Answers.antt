-- `stamps::press` meets its contract: eight bytes are put four times.
use Rattle.stamps.proofs.StampLaws.{pressed_is}
use Rattle.stamps.proofs.press.Goals as goal

pub returns : goal.returns
returns c =
    let a = c.args in
    pressed_is a.ink a.cover a.at _ _ _ _ c.put.ensures c.put-2.ensures c.put-3.ensures c.put-4.ensures
    c.covered.ensures c.covered-2.ensures c.covered-3.ensures c.covered-4.ensures
    c.half_of.ensures c.half_of-2.ensures c.half_of-3.ensures
    c.half_of-4.ensures
