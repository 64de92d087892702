-- What the drawing of a pane may rely on of its place once set-up's checks let it pass.
use Rattle.std.specs.Prelude.{◌≡◌, true, ℕ, ◌+◌, ◌%◌, ◌≤◌, ◌<◌}
use Rattle.model.specs.declared.Geometry.{Geometry}
use Rattle.model.specs.declared.Row.{Row}
use Rattle.model.specs.Bitmaps.{is_depth}
use Rattle.model.specs.Setup.{screen_bytes, most_store}

-- geometry and row of a pane on a screen and a store of so many bytes
pub record Placed (g : Geometry) (r : Row) (screen store : ℕ) : Type 0 where
  pub width : g.width ≤ 4096
  pub height : g.height ≤ 4096
  pub depth : is_depth g.depth ≡ true
  pub wide : 0 < r.width
  pub tall : 0 < r.height
  pub right : r.left + r.width ≤ g.width
  pub bottom : r.top + r.height ≤ g.height
  pub long : screen_bytes g ≤ screen
  pub part : store ≡ r.len
  pub even : r.len % 2 ≡ 0
  pub most : r.len ≤ most_store

-- the pane's corner lies on a screen
pub record Cornered (r : Row) : Type 0 where
  pub left : r.left ≤ 4096
  pub top : r.top ≤ 4096
