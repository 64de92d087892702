-- What a text's path and rotation are.
use Rattle.std.specs.Prelude.{◌<◌}
use Rattle.model.specs.declared.Text.{Text}

-- path and rotation are quarter turns
pub record Oriented (text : Text) : Type 0 where
  pub path : text.path < 4
  pub rotation : text.rotation < 4
