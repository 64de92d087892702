-- The size of a screen, which may pass every number of the machine.
use Rattle.std.specs.Prelude.{ℕ, ◌≤◌, ◌<◌, ◌≡◌}
use Rattle.script_session.specs.SessionState.{most_screen}

-- a number stands for how many bytes a screen takes: it is the same, or both pass the limit
pub record SizeAs (bytes r : ℕ) : Type 0 where
  pub same : r ≤ most_screen → r ≡ bytes
  pub past : most_screen < r → most_screen < bytes
