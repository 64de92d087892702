-- A script within the limit is obeyed on buffers of zeros.
use Rattle.std.proofs.Common.{ap, ◌∙◌, length, take}
use Rattle.script.proofs.ScriptLaws.{answered_lines}
use Rattle.script.proofs.RoomLaws.{answered_whole}
use Rattle.script.proofs.answer.Goals as goal

pub returns : goal.returns
returns c =
    let a = c.args in
    let all = answered_lines a.language a.script.now c.if-script-gt-MOST_SCRIPT.false c.screen_room-screen.ensures c.stores_room-stores.ensures in
    let bytes = c.lines.ensures.written ∙ ap (take (length a.out.now)) all in
    record {
      within = c.lines.ensures.within;
      written = bytes;
      whole = λ room. bytes ∙ answered_whole a.language a.script.now (length a.out.now) room;
    }
