-- `draw_copies::copy_block` meets its contract: rows are read as they stood before, each before it is drawn on within one bitmap, and from
-- another bitmap none is drawn on.
use Rattle.std.proofs.Common.{refl, ◌∙◌}
use Rattle.model.specs.Copies.{copy}
use Rattle.draw_copies.proofs.MoveLaws.{read_first}
use Rattle.draw_copies.proofs.CopyLaws.{source_movable, copied_from}
use Rattle.draw_copies.proofs.copy_block.Goals as goal

pub move_all-hits-requires : goal.move_all-hits-requires
move_all-hits-requires c =
    let a = c.args in
    source_movable a.screen.now a.store.now _ c.operator_of-operator.result c.requires.0 c.patch_of-patch.ensures c.requires.1
    c.operator_of-operator.ensures

pub returns : goal.returns
unfolding copy
returns c =
    let a = c.args in
    let p = c.patch_of-patch.result in record {
      dots =
          c.move_all-hits.ensures
          ∙ copied_from a.t a.from a.b p _ c.requires.0 c.patch_of-patch.ensures a.source _ c.operator_of-operator.result (read_first p) c.requires.1;
      position = c.copied_to-position.ensures;
      trap = refl;
    }
